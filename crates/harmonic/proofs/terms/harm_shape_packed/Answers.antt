-- `harmonic::terms::harm_shape_packed` meets its contract. Assumes nothing.
use mathlib.Core.Path.{◌∙◌}
use Rattle.fixed.proofs.Fit.{read, got32}
use Rattle.word_steps.specs.Harmonic.{packed_gain}
use Rattle.harmonic.proofs.terms.harm_shape_packed.Goals as goal

pub returns : goal.returns
unfolding packed_gain
returns c =
    let g = c.ranges.gain in
    let quarter = rw (read g) at c.shr32.ensures in
    let half = rw (read g) at c.shr32-2.ensures in
    let high = rw (got32 c.shr32-2.result c.shr32-2.type_inv, half) at c.shl32.ensures in
    got32 c.or32.result c.or32.type_inv
    ∙ rw (got32 c.shr32.result c.shr32.type_inv, got32 c.shl32.result c.shl32.type_inv, quarter, high) at c.or32.ensures
