-- `inverses::inverse::lshift_SAT32` meets its contract. Assumes nothing.
use mathlib.Core.Path.{◌∙◌}
use Rattle.word_steps.specs.Inlines.{lshift_SAT32}
use Rattle.fixed.proofs.Fit.{read, got32}
use Rattle.inverses.proofs.inverse.lshift_SAT32.Goals as goal

pub returns : goal.returns
unfolding lshift_SAT32
returns c =
    let lo = c.shr32 in
    let hi = c.shr32-2 in
    let l = got32 lo.result lo.type_inv ∙ lo.ensures in
    let h = got32 hi.result hi.type_inv ∙ hi.ensures in
    let v = got32 c.clamp32.result c.clamp32.type_inv ∙ rw (read c.ranges.z, l, h) at c.clamp32.ensures in
    got32 c.shl32.result c.shl32.type_inv ∙ rw v at c.shl32.ensures
