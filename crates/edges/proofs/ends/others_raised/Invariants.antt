-- `edges::ends::others_raised` meets its contract. Assumes nothing.
use mathlib.Core.Path.{◌≡◌}
use Prim.Native.Nat.{◌≤◌, ◌-◌}
use Rattle.fixed.specs.Iter.{iter}
use Rattle.steps.specs.Flush.{others_turn}
use Rattle.edges.proofs.ends.others_raised.Given as goal

abbrev pub invariant-loop-k : goal.invariant-loop-k
invariant-loop-k l = (l.k ≤ l.n) × (l.ps ≡ iter (others_turn l.w) l.k l.initial.ps)

abbrev pub decreases-loop-k : goal.decreases-loop-k
decreases-loop-k l = l.n - l.k
