-- `inverses::inverse::result_2` meets its contract. Assumes nothing.
use mathlib.Core.Path.{◌∙◌}
use Rattle.word_steps.specs.Inlines.{result_2, rest, result_1}
use Rattle.fixed.proofs.Fit.{read, got32, got16}
use Rattle.inverses.proofs.inverse.result_2.Goals as goal

pub returns : goal.returns
unfolding result_2 rest result_1
returns c =
    let f = c.ranges in
    let a = read f.a32_nrm in
    let b = read f.b32_nrm in
    let v1 = got16 c.low16-half.result c.low16-half.type_inv ∙ rw (read f.inv) at c.low16-half.ensures in
    let v2 = got32 c.smulwb-result.result c.smulwb-result.type_inv ∙ rw (a, v1) at c.smulwb-result.ensures in
    let v3 = got32 c.smmul.result c.smmul.type_inv ∙ rw (b, v2) at c.smmul.ensures in
    let v4 = got32 c.shl32.result c.shl32.type_inv ∙ rw v3 at c.shl32.ensures in
    let v5 = got32 c.sub32-rest.result c.sub32-rest.type_inv ∙ rw (a, v4) at c.sub32-rest.ensures in
    got32 c.smlawb.result c.smlawb.type_inv ∙ rw (v2, v5, v1) at c.smlawb.ensures
