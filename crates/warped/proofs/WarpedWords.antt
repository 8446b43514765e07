-- What the warped filter leaves as it was: how many words there are, and the words from the order on.
-- Assumes nothing.
use mathlib.Core.Path.{◌≡◌, refl, ◌∙◌}
use mathlib.Core.List.{List}
use Prim.Native.Nat.{ℕ, ◌-◌, ◌≤◌}
use native.Mathlib.Omega.{arith}
use lib.IntN.{ℤ, pos}
use lib.ListN.{get_or, length, length-set}
use lib.Seq.{get_or-set_other}
use Rattle.fixed.specs.Iter.{iter}
use Rattle.fixed.proofs.Iters.{iter-keeps}
use Rattle.warped.specs.WarpedFilter.{Filter, turn, begin, warped_filter}

module _ (s ar : List ℤ) (order : ℕ) (w d : ℤ) where
  -- the filter before its last word is written
  abbrev last : Filter
  last = iter (turn ar w) (order - 1) (begin s order w d)

  pub warped-length : length (warped_filter s ar order w d).sAR2_Q14 ≡ length s
  unfolding warped_filter
  warped-length =
      length-set last.sAR2_Q14 (order - 1) last.tmp
      ∙ iter-keeps (λ j f. length f.sAR2_Q14 ≡ length s) (turn ar w) (order - 1)
      (λ j h f q. length-set f.sAR2_Q14 j f.tmp ∙ q)
      (begin s order w d)
      refl

  pub warped-stays : (k : ℕ) → 1 ≤ order → order ≤ k → get_or (warped_filter s ar order w d).sAR2_Q14 k (pos 0) ≡ get_or s k (pos 0)
  unfolding warped_filter
  warped-stays k g h =
      get_or-set_other last.sAR2_Q14 (order - 1) k last.tmp (pos 0) (λ e. omega arith)
      ∙ iter-keeps (λ j f. get_or f.sAR2_Q14 k (pos 0) ≡ get_or s k (pos 0)) (turn ar w) (order - 1)
      (λ j l f q. get_or-set_other f.sAR2_Q14 j k f.tmp (pos 0) (λ e. omega arith) ∙ q)
      (begin s order w d)
      refl
