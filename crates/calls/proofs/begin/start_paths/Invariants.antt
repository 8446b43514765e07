-- `calls::begin::start_paths` meets its contract. Assumes nothing.
use mathlib.Core.Path.{◌≡◌}
use Prim.Native.Nat.{◌≤◌, ◌-◌}
use Rattle.fixed.specs.Iter.{iter}
use Rattle.path.specs.Data.{paths_of}
use Rattle.steps.specs.Begin.{begin_turn}
use Rattle.calls.proofs.begin.start_paths.Given as goal

abbrev pub invariant-loop-k : goal.invariant-loop-k
invariant-loop-k l = (l.k ≤ l.n) × (paths_of l.ps ≡ iter (begin_turn l.ar2 l.lf l.diff l.seed l.row l.ring) l.k (paths_of l.initial.ps))

abbrev pub decreases-loop-k : goal.decreases-loop-k
decreases-loop-k l = l.n - l.k
