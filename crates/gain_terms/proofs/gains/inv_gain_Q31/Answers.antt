-- `gain_terms::gains::inv_gain_Q31` meets its contract. Assumes nothing.
use mathlib.Core.Path.{◌∙◌}
use Rattle.word_steps.specs.Gains.{inv_gain_Q31}
use Rattle.fixed.proofs.Fit.{read, got32}
use Rattle.gain_terms.proofs.gains.inv_gain_Q31.Goals as goal

pub returns : goal.returns
unfolding inv_gain_Q31
returns c =
    let m = c.at_least_one in
    let v = got32 m.result m.type_inv ∙ rw (read c.ranges.gain) at m.ensures.0 in
    got32 c.silk_INVERSE32_varQ.result c.silk_INVERSE32_varQ.type_inv ∙ rw v at c.silk_INVERSE32_varQ.ensures
