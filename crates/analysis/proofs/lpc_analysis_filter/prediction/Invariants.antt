-- `analysis::lpc_analysis_filter::prediction` meets its contract. Assumes nothing.
use mathlib.Core.Path.{◌≡◌}
use Prim.Native.Nat.{◌-◌, ◌≤◌}
use lib.IntN.{pos}
use Rattle.fixed.specs.Iter.{iter}
use Rattle.word_steps.specs.Filter.{tap}
use Rattle.analysis.proofs.lpc_analysis_filter.prediction.Given as goal

abbrev pub invariant-loop-j : goal.invariant-loop-j
invariant-loop-j l = (l.j ≤ l.order) × (l.out32_Q12 ≡ iter (tap l.input l.b l.ix) l.j (pos 0))

abbrev pub decreases-loop-j : goal.decreases-loop-j
decreases-loop-j l = l.order - l.j
