-- `path::scaled::scaled_words` meets its contract. Assumes nothing.
use mathlib.Core.Path.{◌≡◌}
use Prim.Native.Nat.{◌≤◌, ◌-◌}
use lib.ListN.{length}
use Rattle.fixed.specs.Iter.{iter}
use Rattle.path.specs.Scaled.{scale_turn}
use Rattle.path.proofs.scaled.scaled_words.Given as goal

abbrev pub invariant-loop-j : goal.invariant-loop-j
invariant-loop-j l = (l.j ≤ l.m) × ((length l.row ≡ length l.initial.row) × (l.row ≡ iter (scale_turn l.adj l.a) l.j l.initial.row))

abbrev pub decreases-loop-j : goal.decreases-loop-j
decreases-loop-j l = l.m - l.j
