-- `closing::report::differ` meets its contract. Assumes nothing.
use mathlib.Core.Path.{◌≡◌}
use Prim.Native.Nat.{◌-◌, ◌≤◌}
use Rattle.fixed.specs.Iter.{iter}
use Rattle.steps.specs.Report.{differ_turn}
use Rattle.closing.proofs.report.differ.Given as goal

abbrev pub invariant-loop-h : goal.invariant-loop-h
invariant-loop-h l = ((l.h ≤ l.n) × (l.m ≤ l.h)) × (l.m ≡ iter (differ_turn l.out l.own) l.h 0)

abbrev pub decreases-loop-h : goal.decreases-loop-h
decreases-loop-h l = l.n - l.h
