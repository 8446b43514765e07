-- `inverses::inlines::silk_INVERSE32_varQ` meets its contract. Assumes nothing.
use mathlib.Core.Path.{◌∙◌}
use Rattle.word_steps.specs.Inlines.{silk_INVERSE32_varQ}
use Rattle.fixed.proofs.Fit.{read, got32}
use Rattle.inverses.proofs.inlines.silk_INVERSE32_varQ.Goals as goal

pub returns : goal.returns
unfolding silk_INVERSE32_varQ
returns c =
    let b = read c.ranges.b32 in
    let v1 = got32 c.nrm-b32_nrm.result c.nrm-b32_nrm.type_inv ∙ rw b at c.nrm-b32_nrm.ensures.0 in
    let v2 = got32 c.b32_inv.result c.b32_inv.type_inv ∙ rw v1 at c.b32_inv.ensures in
    let v3 = got32 c.refined-result.result c.refined-result.type_inv ∙ rw (v1, v2) at c.refined-result.ensures in
    let h = rw b at c.headrm.ensures.0 in
    got32 c.shifted.result c.shifted.type_inv ∙ rw (v3, h) at c.shifted.ensures
