-- The table of docs/RULES.md, "Which number comes back", row by row: number k is given exactly when it applies and no lower one does, and a call is
-- accepted exactly when none applies. Assumes nothing.
use Prim.Native.Nat.{ℕ, ◌≤◌, ◌<◌}
use mathlib.Core.Path.{◌≡◌, refl, sym, ◌∙◌}
use mathlib.Core.Logic.{◌↔◌}
use mathlib.Core.Bool.{Bool, true, false}
use mathlib.Core.List.{List}
use lib.IntN.{ℤ}
use Rattle.std.specs.Prelude.{Err}
use Rattle.fixed.specs.Iter.{either}
use Rattle.fixed.proofs.Lowest.{lowest, exactly-lowest, exactly-none}
use Rattle.silk.specs.declared.structs.Settings.{Settings}
use Rattle.refusal_rules.specs.declared.answer.Sizes.{Sizes}
use Rattle.refusal_rules.specs.declared.answer.Refusal.TheVariants.{Lengths, Orders, Paths, Kinds, Rows, Gains, Lags}
use Rattle.refusal_rules.specs.Code.{Accepted, code_of}
use Rattle.refusal_rules.specs.Table.{applies, answer_of}

-- the number of the first answer whose test holds
number : (a b c d e f g : Bool)
    → code_of (either a (Err Lengths) (either b (Err Orders) (either c (Err Paths) (either d (Err Kinds) (either e (Err Rows) (either f (Err Gains) (either g (Err Lags) Accepted)))))))
    ≡ either a 1 (either b 2 (either c 3 (either d 4 (either e 5 (either f 6 (either g 7 0))))))
number true b c d e f g = refl
number false true c d e f g = refl
number false false true d e f g = refl
number false false false true e f g = refl
number false false false false true f g = refl
number false false false false false true g = refl
number false false false false false false true = refl
number false false false false false false false = refl

-- ---- the table
module _ (s : Settings) (z : Sizes) (lagPrev gain : ℤ) (gains lags : List ℤ) where
  given : code_of (answer_of s z lagPrev gain gains lags) ≡ lowest (applies s z lagPrev gain gains lags) 7 1
  unfolding answer_of
  given =
      let is = applies s z lagPrev gain gains lags in number (is 1) (is 2) (is 3) (is 4) (is 5) (is 6) (is 7)

  -- number k, from 1 to 7, is given exactly when it applies and no lower number does
  pub exactly-refused : (k : ℕ) → 1 ≤ k → k ≤ 7
      → (code_of (answer_of s z lagPrev gain gains lags) ≡ k)
      ↔ ((applies s z lagPrev gain gains lags k ≡ true) × ((j : ℕ) → 1 ≤ j → j < k → applies s z lagPrev gain gains lags j ≡ false))
  exactly-refused k l u =
      let e = exactly-lowest (applies s z lagPrev gain gains lags) 7 k l u in ((λ x. e.0 (sym given ∙ x)), (λ h. given ∙ e.1 h))

  -- a call is accepted exactly when no number applies
  pub exactly-accepted :
      (code_of (answer_of s z lagPrev gain gains lags) ≡ 0)
      ↔ ((j : ℕ) → 1 ≤ j → j ≤ 7 → applies s z lagPrev gain gains lags j ≡ false)
  exactly-accepted =
      let e = exactly-none (applies s z lagPrev gain gains lags) 7 in ((λ x. e.0 (sym given ∙ x)), (λ h. given ∙ e.1 h))
