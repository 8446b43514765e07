-- `gain_terms::gains::ltp_scaled_inv_gain` meets its contract. Assumes nothing.
use mathlib.Core.Path.{◌∙◌}
use Rattle.word_steps.specs.Gains.{ltp_scaled_inv_gain}
use Rattle.fixed.proofs.Fit.{read, got32, got16}
use Rattle.gain_terms.proofs.gains.ltp_scaled_inv_gain.Goals as goal

pub returns : goal.returns
unfolding ltp_scaled_inv_gain
returns c =
    let f = c.ranges in
    let v1 = got16 c.low16.result c.low16.type_inv ∙ rw (read f.LTP_scale_Q14) at c.low16.ensures in
    let v2 = got32 c.smulwb.result c.smulwb.type_inv ∙ rw (read f.inv31, v1) at c.smulwb.ensures in
    got32 c.shl32.result c.shl32.type_inv ∙ rw v2 at c.shl32.ensures
