-- `choice::cost::with_noise` meets its contract. Assumes nothing.
use mathlib.Core.Path.{◌∙◌}
use Rattle.fixed.proofs.Fit.{read, got32}
use Rattle.choice.specs.RustChoice.{with_noise}
use Rattle.choice.proofs.cost.with_noise.Goals as goal

pub returns : goal.returns
unfolding with_noise
returns c =
    let f = c.ranges in
    let v0 = got32 c.sub32-rr.result c.sub32-rr.type_inv ∙ rw (read f.r, read f.q) at c.sub32-rr.ensures in
    let v1 = got32 c.smlabb.result c.smlabb.type_inv ∙ rw (read f.rd, v0) at c.smlabb.ensures in
    got32 c.shr32.result c.shr32.type_inv ∙ rw v1 at c.shr32.ensures
