-- `paths::each::pairs` meets its contract. Assumes nothing.
use mathlib.Core.Path.{◌≡◌}
use Prim.Native.Nat.{◌≤◌, ◌-◌}
use Rattle.fixed.specs.Iter.{iter}
use Rattle.steps.specs.Each.{pair_turn}
use Rattle.paths.proofs.each.pairs.Given as goal

abbrev pub invariant-loop-k : goal.invariant-loop-k
invariant-loop-k l = (l.k ≤ l.n) × (l.c ≡ iter (pair_turn l.f l.a l.s l.i l.r0 l.m l.ps.lpcs l.ps.rings) l.k l.initial.c)

abbrev pub decreases-loop-k : goal.decreases-loop-k
decreases-loop-k l = l.n - l.k
