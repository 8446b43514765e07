-- The refusals of docs/RULES.md, "Notes from WAV files", word for word: number k is given exactly when it applies and no lower one does, and a
-- file is accepted exactly when none applies; and so for number 8 of the second step. Assumes nothing.
use Prim.Native.Nat.{ℕ, zero, suc, ◌*◌, ◌≤◌, ◌<◌}
use native.Mathlib.Omega.{arith}
use mathlib.Core.Path.{◌≡◌, refl, sym, ap}
use mathlib.Core.Logic.{◌↔◌}
use mathlib.Core.Bool.{Bool, true, false}
use mathlib.Core.List.{List}
use lib.ListN.{length}
use lib.IntN.{ℤ}
use lib.Dec.{eqb, eqb-suc-zero}
use borrow.Author.Tests.{eqb-true, eqb-false}
use Rattle.fixed.specs.Iter.{either}
use Rattle.wav_file.specs.Find.{Outcome}
use Rattle.wav_file.specs.Fill.{Filled, filling}
use Rattle.wav_file.proofs.Rows.{alike, unlike}
use Rattle.wav_file.specs.Find.{applies, answer_of, accepted, refused, found}
use Rattle.fixed.proofs.Iters.{either-all}
use Rattle.fixed.proofs.Lowest.{exactly-lowest, exactly-none}

either_number : (a : ℕ) (x y : Outcome) → x.answer ≡ 0 → y.answer ≡ a → (either (eqb a 0) x y).answer ≡ a
either_number zero x y e f = e
either_number (suc a) x y e f = rw (eqb-suc-zero a) f

module _ (file : List ℕ) where
  -- the answer that is handed back is the number
  pub found-answer : (found file).answer ≡ answer_of file
  unfolding found accepted
  found-answer = either_number (answer_of file) (accepted file) (refused (answer_of file)) refl refl

  -- number k, from 1 to 7, is given exactly when it applies and no lower number does
  pub exactly-refused : (k : ℕ) → 1 ≤ k → k ≤ 7
      → (answer_of file ≡ k) ↔ ((applies file k ≡ true) × ((j : ℕ) → 1 ≤ j → j < k → applies file j ≡ false))
  unfolding answer_of
  exactly-refused k l u = exactly-lowest (applies file) 7 k l u

  -- no number above 7 is given
  pub answer-most : answer_of file ≤ 7
  unfolding answer_of
  answer-most = below 1 1 _ (omega arith) (below 2 2 _ (omega arith) (below 3 3 _ (omega arith) (below 4 4 _ (omega arith) (below 5 5 _ (omega arith) (below 6 6 _ (omega arith) (below 7 7 0 (omega arith) (omega arith)))))))
    where
      below : (j k m : ℕ) → k ≤ 7 → m ≤ 7 → either (applies file j) k m ≤ 7
      below j k m h l = either-all (λ (n : ℕ). n ≤ 7) (applies file j) k m (λ e. h) (λ e. l)

  -- a file is accepted exactly when no number applies
  pub exactly-accepted : (answer_of file ≡ 0) ↔ ((j : ℕ) → 1 ≤ j → j ≤ 7 → applies file j ≡ false)
  unfolding answer_of
  exactly-accepted = exactly-none (applies file) 7

-- ---- the second step
module _ (bytes : List ℕ) (row : List ℤ) where
  -- 8 is given exactly where the part isn't twice as long as the row
  pub exactly-8 : ((filling bytes row).answer ≡ 8) ↔ (length bytes ≡ 2 * length row → ⊥)
  exactly-8 = (
    (λ h e. omega (arith, h, ap (λ (o : Filled). o.answer) (alike bytes row e))),
    (λ h. sym (ap (λ (o : Filled). o.answer) (unlike bytes row h))),
  )

  -- and 0 exactly where it is
  pub exactly-filled : ((filling bytes row).answer ≡ 0) ↔ (length bytes ≡ 2 * length row)
  exactly-filled = ((λ h. turn h (eqb (length bytes) (2 * length row)) refl), (λ e. sym (ap (λ (o : Filled). o.answer) (alike bytes row e))))
    where
      turn : (filling bytes row).answer ≡ 0 → (b : Bool) → eqb (length bytes) (2 * length row) ≡ b → length bytes ≡ 2 * length row
      turn h true e = eqb-true _ _ e
      turn h false e = absurd (omega (arith, h, exactly-8.1 (eqb-false _ _ e)))
