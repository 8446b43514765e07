-- `penalty::penalties::penalised` meets its contract. Assumes nothing.
use mathlib.Core.Path.{◌≡◌}
use Prim.Native.Nat.{◌≤◌, ◌-◌}
use Rattle.fixed.specs.Iter.{iter}
use Rattle.penalty.specs.Penalty.{penalty_turn}
use Rattle.penalty.proofs.penalties.penalised.Given as goal

abbrev pub invariant-loop-k : goal.invariant-loop-k
invariant-loop-k l = (l.k ≤ l.n) × (l.c ≡ iter (penalty_turn l.ring l.w l.last) l.k l.initial.c)

abbrev pub decreases-loop-k : goal.decreases-loop-k
decreases-loop-k l = l.n - l.k
