-- The marked examples of docs/RULES.md, its slip about the clamp, and the ends of the ranges, by computation.
-- Assumes nothing.
use mathlib.Core.Path.{◌≡◌, refl}
use mathlib.Core.List.{List, [], ◌∷◌, map}
use lib.IntN.{ℤ, pos, negsuc}
use Rattle.fixed.specs.Wrap.{wrap_to, wrap32, wrap16}
use Rattle.fixed.specs.Shift.{shr, shl32, shr32}
use Rattle.products.specs.Product.{smulbb, smlabb}
use Rattle.choice.specs.declared.candidate.Choice.{Choice}
use Rattle.fixed.specs.Range.{clamp}
use Rattle.residuals.specs.Residual.{turned, signed_residual}
use Rattle.choice.specs.RuleChoice.{level_of, rounded, lower_of, cost_sum, cost_of, between, ruled}
use Rattle.choice.specs.RustChoice.{with_noise, ordered, costed, choice}
use Rattle.levels.specs.Levels.{biased, q1_Q0, above, at_zero, at_minus_one, below, tried}

-- a row of the table
pub record Example : Type 0 where
  pub residual : ℤ
  pub Lambda : ℤ
  pub offset : ℤ
  pub candidates : Choice

-- level and cost of the first candidate, then of the second
abbrev row : ℤ → ℤ → ℤ → ℤ → ℤ → ℤ → ℤ → Example
row r l o q1 c1 q2 c2 =
    record { residual = r; Lambda = l; offset = o; candidates = record { first_level = q1; first_cost = c1; second_level = q2; second_cost = c2 } }

-- docs/RULES.md, "Marked examples"
abbrev pub marked : List Example
marked =
    row (pos 0) (pos 0) (pos 100) (pos 100) (pos 9) (negsuc 843) (pos 695)
    ∷ row (pos 30720) (pos 0) (pos 32) (pos 30672) (pos 2) (pos 29648) (pos 1122)
    ∷ row (negsuc 31743) (pos 0) (pos 240) (negsuc 31423) (pos 100) (negsuc 32447) (pos 484)
    ∷ row (pos 572) (pos 0) (pos 100) (pos 1044) (pos 217) (pos 100) (pos 217)
    ∷ row (pos 572) (pos 1024) (pos 100) (pos 100) (pos 317) (pos 1044) (pos 1261)
    ∷ row (pos 1124) (pos 2048) (pos 100) (pos 1044) (pos 2094) (pos 2068) (pos 5006)
    ∷ row (pos 1124) (pos 2049) (pos 100) (pos 100) (pos 1224) (pos 1044) (pos 2095)
    ∷ row (pos 1124) (pos 32768) (pos 100) (pos 1044) (negsuc 33401) (pos 100) (negsuc 2175)
    ∷ []

-- all eight rows: what the Rust's steps give, and what the rule gives, is what the table says
pub marked-examples :
    (map (λ e. choice e.residual e.Lambda e.offset) marked ≡ map (λ e. e.candidates) marked)
    × (map (λ e. ruled e.residual e.Lambda e.offset) marked ≡ map (λ e. e.candidates) marked)
unfolding choice costed ordered with_noise tried below at_minus_one at_zero above q1_Q0 biased ruled between cost_of cost_sum lower_of rounded level_of smulbb smlabb shl32 shr32 shr wrap32 wrap16 wrap_to
marked-examples = (refl, refl)

-- residual 31000 with a negative seed becomes -31000, not -30720: the sign comes before the clamp
pub sign-before-clamp : signed_residual (negsuc 0) (pos 31000) ≡ negsuc 30999
unfolding signed_residual turned clamp wrap32 wrap_to
sign-before-clamp = refl

-- the bounds of the costs are met, and those of the pulses: the last two choices have the levels of -32 and 30
pub bounds-are-met :
    ((choice (negsuc 31743) (negsuc 32767) (pos 32)).first_cost ≡ negsuc 1044179)
    × ((choice (negsuc 31712) (negsuc 32768) (pos 32)).second_cost ≡ pos 1045828)
    × ((choice (negsuc 31743) (pos 0) (pos 240)).second_level ≡ level_of (pos 240) (negsuc 31))
    × ((choice (pos 30720) (pos 0) (pos 32)).first_level ≡ level_of (pos 32) (pos 30))
unfolding choice costed ordered with_noise tried below at_minus_one at_zero above q1_Q0 biased level_of smulbb smlabb shl32 shr32 shr wrap32 wrap16 wrap_to
bounds-are-met = (refl, refl, refl, refl)
