-- `inverses::inlines::silk_DIV32_varQ` meets its contract. Assumes nothing.
use mathlib.Core.Path.{◌∙◌}
use Rattle.word_steps.specs.Inlines.{silk_DIV32_varQ}
use Rattle.fixed.proofs.Fit.{read, got32}
use Rattle.inverses.proofs.inlines.silk_DIV32_varQ.Goals as goal

pub returns : goal.returns
unfolding silk_DIV32_varQ
returns c =
    let f = c.ranges in
    let a = read f.a32 in
    let b = read f.b32 in
    let v1 = got32 c.nrm-b32_nrm.result c.nrm-b32_nrm.type_inv ∙ rw b at c.nrm-b32_nrm.ensures.0 in
    let v2 = got32 c.nrm.result c.nrm.type_inv ∙ rw a at c.nrm.ensures.0 in
    let v3 = got32 c.b32_inv.result c.b32_inv.type_inv ∙ rw v1 at c.b32_inv.ensures in
    let v4 = got32 c.result_2-result.result c.result_2-result.type_inv ∙ rw (v2, v1, v3) at c.result_2-result.ensures in
    let g = rw b at c.headrm.ensures.0 in
    let h = rw a at c.headrm-2.ensures.0 in
    got32 c.shifted.result c.shifted.type_inv ∙ rw (v4, g, h) at c.shifted.ensures
