-- `analysis::lpc_analysis_filter::filtered` meets its contract. Assumes nothing.
use mathlib.Core.Path.{◌∙◌}
use lib.IntN.{pos}
use lib.ListN.{get_or}
use Rattle.fixed.proofs.Fit.{got16, got32, read, fit16-32}
use mir.Syntax.{w16}
use mir.Val.{SFits}
use Rattle.word_steps.specs.Filter.{filtered}
use Rattle.analysis.proofs.lpc_analysis_filter.filtered.Goals as goal

pub returns : goal.returns
unfolding filtered
returns c =
    let a = c.args in
    let x : SFits w16 (get_or a.input.now a.ix (pos 0)) = record { sfits = c.shl32-arg-1.given } in
    let v0 = got32 c.prediction-out32_Q12.result c.prediction-out32_Q12.type_inv ∙ c.prediction-out32_Q12.ensures in
    let v1 = got32 c.shl32.result c.shl32.type_inv ∙ rw (read x, read (fit16-32 x)) at c.shl32.ensures in
    let v2 = got32 c.sub32-left.result c.sub32-left.type_inv ∙ rw (v1, v0) at c.sub32-left.ensures in
    let v3 = got32 c.rshift_round.result c.rshift_round.type_inv ∙ rw v2 at c.rshift_round.ensures in
    got16 c.sat16.result c.sat16.type_inv ∙ rw v3 at c.sat16.ensures
