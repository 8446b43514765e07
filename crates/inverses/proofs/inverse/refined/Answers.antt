-- `inverses::inverse::refined` meets its contract. Assumes nothing.
use mathlib.Core.Path.{◌∙◌}
use Rattle.word_steps.specs.Inlines.{refined, err_Q32}
use Rattle.fixed.proofs.Fit.{read, got32, got16}
use Rattle.inverses.proofs.inverse.refined.Goals as goal

pub returns : goal.returns
unfolding refined err_Q32
returns c =
    let n = read c.ranges.b32_nrm in
    let i = read c.ranges.inv in
    let v1 = got16 c.low16.result c.low16.type_inv ∙ rw i at c.low16.ensures in
    let v2 = got32 c.smulwb-met.result c.smulwb-met.type_inv ∙ rw (n, v1) at c.smulwb-met.ensures in
    let v3 = got32 c.sub32.result c.sub32.type_inv ∙ rw v2 at c.sub32.ensures in
    let v4 = got32 c.shl32-err_Q32.result c.shl32-err_Q32.type_inv ∙ rw v3 at c.shl32-err_Q32.ensures in
    let v5 = got32 c.shl32.result c.shl32.type_inv ∙ rw i at c.shl32.ensures in
    got32 c.smlaww.result c.smlaww.type_inv ∙ rw (v5, v4, i) at c.smlaww.ensures
