-- The edge, by computing: with Lambda 1105 a pulse that isn't looked at can be cheaper by one; with 1104 it costs the same. And what is not claimed: the two
-- that are looked at are not always the two cheapest. Assumes nothing.
use mathlib.Core.Path.{◌≡◌, refl}
use mathlib.Core.List.{List, [], ◌∷◌, map}
use lib.IntN.{ℤ, pos}
use Rattle.fixed.specs.Wrap.{wrap_to, wrap32, wrap16}
use Rattle.fixed.specs.Shift.{shr, shl32, shr32}
use Rattle.products.specs.Product.{smulbb, smlabb}
use Rattle.levels.specs.Levels.{biased, q1_Q0, above, at_zero, at_minus_one, below, tried}
use Rattle.choice.specs.declared.candidate.Choice.{Choice}
use Rattle.choice.specs.RustChoice.{with_noise, ordered, costed, choice}
use Rattle.choice.specs.RuleChoice.{level_of, rounded, lower_of, cost_sum, cost_of, between, ruled}
use Rattle.cheapest.specs.Cheapest.{pulse_cost}

-- a pulse number and what it costs
pub record Priced : Type 0 where
  pub pulse : ℤ
  pub cost : ℤ

-- the two that are looked at, the first and the second candidate, and one that is not
pub record Example : Type 0 where
  pub Lambda : ℤ
  pub offset : ℤ
  pub residual : ℤ
  pub first : Priced
  pub second : Priced
  pub other : Priced

abbrev row : ℤ → ℤ → ℤ → Priced → Priced → Priced → Example
row l o r a b c = record { Lambda = l; offset = o; residual = r; first = a; second = b; other = c }

abbrev priced : ℤ → ℤ → Priced
priced p c = record { pulse = p; cost = c }

-- Lambda, offset, residual; first, second, other
abbrev pub edge : List Example
edge =
    -- Lambda 1105, once for each offset of the table: pulses 1 and 2 are looked at and 1 is taken, while 0 would cost one less
    row (pos 1105) (pos 32) (pos 1056) (priced (pos 1) (pos 1059)) (priced (pos 2) (pos 3028)) (priced (pos 0) (pos 1058))
    ∷ row (pos 1105) (pos 100) (pos 1124) (priced (pos 1) (pos 1132)) (priced (pos 2) (pos 3101)) (priced (pos 0) (pos 1131))
    ∷ row (pos 1105) (pos 240) (pos 1264) (priced (pos 1) (pos 1283)) (priced (pos 2) (pos 3252)) (priced (pos 0) (pos 1282))
    -- Lambda 1104: 0 costs the same
    ∷ row (pos 1104) (pos 32) (pos 1056) (priced (pos 1) (pos 1058)) (priced (pos 2) (pos 3026)) (priced (pos 0) (pos 1058))
    -- the second candidate, pulse 1, is not the second cheapest: 3, which isn't looked at, would cost less
    ∷ row (pos 0) (pos 100) (pos 2147) (priced (pos 2) (pos 6)) (priced (pos 1) (pos 1188)) (priced (pos 3) (pos 872))
    ∷ []

-- the choice that an example has: its first two pulses with their levels
abbrev pub chosen_in : Example → Choice
chosen_in e =
    record {
      first_level = level_of e.offset e.first.pulse;
      first_cost = e.first.cost;
      second_level = level_of e.offset e.second.pulse;
      second_cost = e.second.cost;
    }

-- what its three pulses cost
abbrev pub costs_in : Example → List ℤ
costs_in e = map (pulse_cost e.residual e.Lambda e.offset) (e.first.pulse ∷ e.second.pulse ∷ e.other.pulse ∷ [])

-- all five rows: of the rule of docs/RULES.md, of the Rust's steps, and the costs of the three pulses
pub edge-examples :
    (map (λ e. ruled e.residual e.Lambda e.offset) edge ≡ map chosen_in edge)
    × (map (λ e. choice e.residual e.Lambda e.offset) edge ≡ map chosen_in edge)
    × (map costs_in edge ≡ map (λ e. e.first.cost ∷ e.second.cost ∷ e.other.cost ∷ []) edge)
unfolding choice costed ordered with_noise tried below at_minus_one at_zero above q1_Q0 biased ruled between pulse_cost cost_of cost_sum lower_of rounded level_of smulbb smlabb shl32 shr32 shr wrap32 wrap16 wrap_to
edge-examples = (refl, refl, refl)
