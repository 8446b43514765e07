-- `noise::residual::residual` meets its contract. Assumes nothing.
use mathlib.Core.Path.{◌∙◌}
use Rattle.fixed.proofs.Fit.{read, got32}
use Rattle.noise.specs.Residual.{predicted, residual}
use Rattle.noise.proofs.residual.residual.Goals as goal

pub returns : goal.returns
unfolding predicted residual
returns c =
    let f = c.ranges in
    let noise = rw (read f.n_ar, read f.n_lf) at c.add32-noise.ensures in
    let prediction = rw (read f.n_ltp, read f.lpc_pred) at c.add32-prediction.ensures in
    let difference = rw (got32 c.add32-prediction.result c.add32-prediction.type_inv, got32 c.add32-noise.result c.add32-noise.type_inv, prediction, noise) at c.sub32.ensures in
    let rounded = rw (got32 c.sub32.result c.sub32.type_inv, difference) at c.rshift_round-rounded.ensures in
    got32 c.sub32-2.result c.sub32-2.type_inv
    ∙ rw (read f.x_q10, got32 c.rshift_round-rounded.result c.rshift_round-rounded.type_inv, rounded) at c.sub32-2.ensures
