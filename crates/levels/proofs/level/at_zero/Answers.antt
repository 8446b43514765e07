-- `levels::level::at_zero` meets its contract. Assumes nothing.
use mathlib.Core.Path.{◌∙◌}
use Rattle.fixed.proofs.Fit.{read, got32}
use Rattle.levels.specs.Levels.{at_zero}
use Rattle.levels.proofs.level.at_zero.Goals as goal

pub returns : goal.returns
unfolding at_zero
returns c =
    let f = c.ranges in
    let v1 = got32 c.add32-q2.result c.add32-q2.type_inv ∙ rw (read f.offset) at c.add32-q2.ensures in
    let v2 = got32 c.smulbb.result c.smulbb.type_inv ∙ rw (read f.offset, read f.lambda) at c.smulbb.ensures in
    let v3 = got32 c.smulbb-2.result c.smulbb-2.type_inv ∙ rw (v1, read f.lambda) at c.smulbb-2.ensures in
    rw (read f.offset, v1, v2, v3)
