-- `analysis::lpc_analysis_filter::silk_LPC_analysis_filter` meets its contract. Assumes nothing.
use mathlib.Core.Path.{◌≡◌}
use Prim.Native.Nat.{◌≤◌}
use lib.ListN.{length}
use Rattle.fixed.specs.Iter.{iter}
use Rattle.word_steps.specs.Filter.{filter_turn}
use Rattle.analysis.proofs.lpc_analysis_filter.silk_LPC_analysis_filter.Given as goal

abbrev pub invariant-loop-k : goal.invariant-loop-k
invariant-loop-k l = ((l.k ≤ l.n) × (length l.out ≡ length l.initial.out)) × (l.out ≡ iter (filter_turn l.input l.b l.order) l.k l.initial.out)
