-- `levels::level::at_minus_one` meets its contract. Assumes nothing.
use mathlib.Core.Path.{◌∙◌}
use Rattle.fixed.proofs.Fit.{read, got32}
use Rattle.levels.specs.Levels.{at_minus_one}
use Rattle.levels.proofs.level.at_minus_one.Goals as goal

pub returns : goal.returns
unfolding at_minus_one
returns c =
    let f = c.ranges in
    let v1 = got32 c.sub32-q1.result c.sub32-q1.type_inv ∙ rw (read f.offset) at c.sub32-q1.ensures in
    let v2 = got32 c.neg32.result c.neg32.type_inv ∙ rw v1 at c.neg32.ensures in
    let v3 = got32 c.smulbb.result c.smulbb.type_inv ∙ rw (v2, read f.lambda) at c.smulbb.ensures in
    let v4 = got32 c.smulbb-2.result c.smulbb-2.type_inv ∙ rw (read f.offset, read f.lambda) at c.smulbb-2.ensures in
    rw (read f.offset, v1, v3, v4)
