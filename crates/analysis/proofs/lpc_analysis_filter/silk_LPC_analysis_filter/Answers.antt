-- `analysis::lpc_analysis_filter::silk_LPC_analysis_filter` meets its contract. Assumes nothing.
use mathlib.Core.Path.{◌≡◌, ap, ◌∙◌}
use mathlib.Core.List.{List, ◌++◌}
use Prim.Native.Nat.{ℕ, ◌-◌, ◌≤◌}
use native.Mathlib.Omega.{arith}
use lib.ListN.{length, take, drop, replicate}
use lib.IntN.{ℤ, pos}
use Rattle.std.proofs.lemmas.List.{length-take-le}
use Rattle.fixed.specs.Iter.{iter}
use Rattle.word_steps.specs.Filter.{clear_turn, filter_turn, analysis}
use Rattle.analysis.proofs.Analysis.{cleared}
use Rattle.analysis.proofs.lpc_analysis_filter.silk_LPC_analysis_filter.Goals as goal

pub returns : goal.returns
unfolding analysis
returns c =
    let a = c.args in
    let zeros = c.fill.ensures.after (λ y e. e) in
    let k : c.loop-k.k ≡ length a.input.now - a.order = omega arith in
    let h : a.order ≤ length c.loop-k.out = omega arith in
    let n : length (take a.order c.loop-k.out) ≡ a.order = length-take-le a.order c.loop-k.out h in
    let filled = c.loop-k.invariant.1 ∙ ap (λ (m : ℕ). iter (filter_turn a.input.now a.b.now a.order) m a.out.now) k in
    ap (λ (l : List ℤ). l ++ drop a.order c.loop-k.out) (zeros ∙ ap (λ (m : ℕ). replicate m (pos 0)) n)
    ∙ cleared a.order c.loop-k.out h ∙ ap (iter clear_turn a.order) filled
