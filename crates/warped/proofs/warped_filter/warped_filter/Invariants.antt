-- `warped::warped_filter::warped_filter` meets its contract. Assumes nothing.
use Prim.Native.Nat.{◌≤◌}
use mathlib.Core.Path.{◌≡◌}
use mathlib.Core.List.{List}
use lib.IntN.{ℤ}
use Rattle.fixed.specs.Iter.{iter}
use Rattle.warped.specs.WarpedFilter.{Filter, turn, begin}
use Rattle.warped.proofs.warped_filter.warped_filter.Given as goal

-- the filter in work, as the code's locals hold it
abbrev pub in_work : List ℤ → ℤ → ℤ → Filter
in_work s tmp n = record { sAR2_Q14 = s; tmp = tmp; n_AR_Q14 = n }

abbrev pub invariant-loop-j : goal.invariant-loop-j
invariant-loop-j l = (l.j ≤ l.last)
    × (in_work l.s l.tmp l.n ≡ iter (turn l.ar l.warping) l.j (begin l.initial.s l.order l.warping l.diff))
