-- `levels::level::below` meets its contract. Assumes nothing.
use mathlib.Core.Path.{◌∙◌}
use Rattle.fixed.proofs.Fit.{read, got32}
use Rattle.levels.specs.Levels.{below}
use Rattle.levels.proofs.level.below.Goals as goal

pub returns : goal.returns
unfolding below
returns c =
    let f = c.ranges in
    let v1 = got32 c.shl32.result c.shl32.type_inv ∙ rw (read f.p) at c.shl32.ensures in
    let v2 = got32 c.add32.result c.add32.type_inv ∙ rw v1 at c.add32.ensures in
    let v3 = got32 c.add32-q1.result c.add32-q1.type_inv ∙ rw (v2, read f.offset) at c.add32-q1.ensures in
    let v4 = got32 c.add32-q2.result c.add32-q2.type_inv ∙ rw v3 at c.add32-q2.ensures in
    let v5 = got32 c.neg32.result c.neg32.type_inv ∙ rw v3 at c.neg32.ensures in
    let v6 = got32 c.smulbb.result c.smulbb.type_inv ∙ rw (v5, read f.lambda) at c.smulbb.ensures in
    let v7 = got32 c.neg32-2.result c.neg32-2.type_inv ∙ rw v4 at c.neg32-2.ensures in
    let v8 = got32 c.smulbb-2.result c.smulbb-2.type_inv ∙ rw (v7, read f.lambda) at c.smulbb-2.ensures in
    rw (v3, v4, v6, v8)
