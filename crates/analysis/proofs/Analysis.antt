-- What the analysis filter leaves in each place, whatever the row held before: zero in the first `order`, the filtered
-- input in each other one, and past the input what was there. Assumes nothing.
use mathlib.Core.Path.{◌≡◌, refl, sym, ap, ◌∙◌}
use Prim.Native.Nat.{ℕ, zero, suc, ◌+◌, ◌-◌, ◌<◌, ◌≤◌}
use native.Mathlib.Omega.{arith}
use mathlib.Core.List.{List, [], ◌∷◌, ◌++◌}
use lib.ListN.{get_or, length, replicate, drop}
use lib.IntN.{ℤ, pos}
use Rattle.fixed.specs.Iter.{iter}
use Rattle.word_steps.specs.Filter.{filtered, filter_turn, clear_turn, analysis}
use Rattle.fixed.proofs.Fills.{fill-length, fill-apart, fill-at}

-- the first places cleared one by one: as many zeros, and the rest of the row
clears-cons : (n : ℕ) (z : ℤ) (l : List ℤ) → iter clear_turn (suc n) (z ∷ l) ≡ pos 0 ∷ iter clear_turn n l
clears-cons zero z l = refl
clears-cons (suc n) z l = ap (clear_turn (suc n)) (clears-cons n z l)

pub cleared : (k : ℕ) (l : List ℤ) → k ≤ length l → replicate k (pos 0) ++ drop k l ≡ iter clear_turn k l
cleared zero l h = refl
cleared (suc k) [] h = absurd (let g : suc k ≤ 0 = h in omega arith)
cleared (suc k) (z ∷ l) h =
    let g : suc k ≤ suc (length l) = h in
    ap (λ (r : List ℤ). pos 0 ∷ r) (cleared k l (omega arith)) ∙ sym (clears-cons k z l)

module _ (out input b : List ℤ) (order : ℕ) where
  -- the row before its first places are cleared
  abbrev body : List ℤ
  body = iter (filter_turn input b order) (length input - order) out

  body-length : length body ≡ length out
  body-length = fill-length (λ k. order + k) (λ k. filtered input b order (order + k)) (length input - order) out

  pub analysis-length : length (analysis out input b order) ≡ length out
  unfolding analysis
  analysis-length = fill-length (λ i. i) (λ i. pos 0) order body ∙ body-length

  -- the first `order` outputs are zero
  pub analysis-head : (i : ℕ) → i < order → order ≤ length out → get_or (analysis out input b order) i (pos 0) ≡ pos 0
  unfolding analysis
  analysis-head i h l =
      fill-at (λ j. j) (λ j. pos 0) order body (pos 0) (λ j k m e. omega arith) (λ j k. rw body-length (omega arith)) i h

  -- each other output is the filtered input of its place
  pub analysis-at : (ix : ℕ) → order ≤ ix → ix < length input → length input ≤ length out
      → get_or (analysis out input b order) ix (pos 0) ≡ filtered input b order ix
  unfolding analysis
  analysis-at ix h l m =
      let e : order + (ix - order) ≡ ix = omega arith in
      fill-apart (λ i. i) (λ i. pos 0) order body ix (pos 0) (λ i k q. omega arith)
      ∙ rw e at (fill-at (λ k. order + k) (λ k. filtered input b order (order + k)) (length input - order) out (pos 0) (λ j k n q. omega arith) (λ k q. omega arith) (ix - order) (omega arith))

  -- past the input the row stays
  pub analysis-past : (j : ℕ) → order ≤ length input → length input ≤ j → get_or (analysis out input b order) j (pos 0) ≡ get_or out j (pos 0)
  unfolding analysis
  analysis-past j h l =
      fill-apart (λ i. i) (λ i. pos 0) order body j (pos 0) (λ i k q. omega arith)
      ∙ fill-apart (λ k. order + k) (λ k. filtered input b order (order + k)) (length input - order) out j (pos 0) (λ i k q. omega arith)
