-- The warped filter by the Rust's turns of two places, and by the definition's turns of one place: for every even order the same words and the same sum.
-- Assumes nothing.
use mathlib.Core.Path.{◌≡◌, refl, ap, ◌∙◌}
use mathlib.Core.List.{List}
use Prim.Native.Nat.{ℕ, zero, suc, ◌+◌, ◌-◌, ◌*◌, ◌/◌}
use native.Mathlib.Omega.{arith}
use lib.IntN.{ℤ}
use Rattle.fixed.specs.Iter.{iter}
use Rattle.warped.specs.WarpedFilter.{Filter, turn, begin, write, warped_filter}
use Rattle.warped.specs.WarpedPairs.{pair_turn, by_pairs}

-- a turn of two at j is a turn of one at k, just before j, and one at j
pair : (ar : List ℤ) (w : ℤ) (j k : ℕ) (f : Filter) → j - 1 ≡ k → k + 1 ≡ j → pair_turn ar w j f ≡ turn ar w j (turn ar w k f)
pair ar w j k f d e = rw (d, e)

-- m turns of two, after place 0, are 2 * m + 1 turns of one
pairs : (ar : List ℤ) (w : ℤ) (m : ℕ) (f : Filter) → iter (λ i. pair_turn ar w (2 * i + 2)) m (turn ar w 0 f) ≡ iter (turn ar w) (2 * m + 1) f
pairs ar w zero f = refl
pairs ar w (suc m) f =
    let j : 2 * m + 2 ≡ suc (2 * m + 1) = omega arith in
    let n : suc (suc (2 * m + 1)) ≡ 2 * suc m + 1 = omega arith in
    ap (λ (i : ℕ). pair_turn ar w i (iter (λ i. pair_turn ar w (2 * i + 2)) m (turn ar w 0 f))) j
    ∙ ap (pair_turn ar w (suc (2 * m + 1))) (pairs ar w m f)
    ∙ pair ar w (suc (2 * m + 1)) (2 * m + 1) (iter (turn ar w) (2 * m + 1) f) (omega arith) (omega arith)
    ∙ ap (λ (i : ℕ). iter (turn ar w) i f) n

pub warped-by-pairs : (s ar : List ℤ) (m : ℕ) (warping diff : ℤ) → by_pairs s ar (2 * m + 2) warping diff ≡ warped_filter s ar (2 * m + 2) warping diff
unfolding by_pairs warped_filter
warped-by-pairs s ar m warping diff =
    let h : (2 * m + 2 - 2) / 2 ≡ m = omega arith in
    let k : 2 * m + 2 - 1 ≡ 2 * m + 1 = omega arith in
    rw (h, k) (ap (write ar (2 * m + 1)) (pairs ar warping m (begin s (2 * m + 2) warping diff)))
