-- `paths::each::taken_all` meets its contract. Assumes nothing.
use mathlib.Core.Path.{◌≡◌}
use Prim.Native.Nat.{◌≤◌, ◌-◌}
use Rattle.fixed.specs.Iter.{iter}
use Rattle.path.specs.Data.{paths_of}
use Rattle.steps.specs.Each.{take_turn}
use Rattle.paths.proofs.each.taken_all.Given as goal

abbrev pub invariant-loop-k : goal.invariant-loop-k
invariant-loop-k l = (l.k ≤ l.n) × (paths_of l.ps ≡ iter (take_turn l.c l.i l.r) l.k (paths_of l.initial.ps))

abbrev pub decreases-loop-k : goal.decreases-loop-k
decreases-loop-k l = l.n - l.k
