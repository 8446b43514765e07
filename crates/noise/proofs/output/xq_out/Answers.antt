-- `noise::output::xq_out` meets its contract. Assumes nothing.
use mathlib.Core.Path.{◌∙◌}
use Rattle.fixed.proofs.Fit.{read, got32, got16}
use Rattle.noise.specs.Output.{xq_out}
use Rattle.noise.proofs.output.xq_out.Goals as goal

pub returns : goal.returns
unfolding xq_out
returns c =
    let f = c.ranges in
    let product = rw (read f.xq_q14, read f.gain) at c.smulww.ensures in
    let rounded = rw (got32 c.smulww.result c.smulww.type_inv, product) at c.rshift_round.ensures in
    got16 c.sat16.result c.sat16.type_inv
    ∙ rw (got32 c.rshift_round.result c.rshift_round.type_inv, rounded) at c.sat16.ensures
