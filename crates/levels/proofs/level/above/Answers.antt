-- `levels::level::above` meets its contract. Assumes nothing.
use mathlib.Core.Path.{◌∙◌}
use Rattle.fixed.proofs.Fit.{read, got32}
use Rattle.levels.specs.Levels.{above}
use Rattle.levels.proofs.level.above.Goals as goal

pub returns : goal.returns
unfolding above
returns c =
    let f = c.ranges in
    let v1 = got32 c.shl32.result c.shl32.type_inv ∙ rw (read f.p) at c.shl32.ensures in
    let v2 = got32 c.sub32.result c.sub32.type_inv ∙ rw v1 at c.sub32.ensures in
    let v3 = got32 c.add32-q1.result c.add32-q1.type_inv ∙ rw (v2, read f.offset) at c.add32-q1.ensures in
    let v4 = got32 c.add32-q2.result c.add32-q2.type_inv ∙ rw v3 at c.add32-q2.ensures in
    let v5 = got32 c.smulbb.result c.smulbb.type_inv ∙ rw (v3, read f.lambda) at c.smulbb.ensures in
    let v6 = got32 c.smulbb-2.result c.smulbb-2.type_inv ∙ rw (v4, read f.lambda) at c.smulbb-2.ensures in
    rw (v3, v4, v5, v6)
