-- `gain_terms::gains::x_sc_Q10` meets its contract. Assumes nothing.
use mathlib.Core.Path.{◌∙◌}
use Rattle.word_steps.specs.Gains.{x_sc_Q10}
use Rattle.fixed.proofs.Fit.{read, got32}
use Rattle.gain_terms.proofs.gains.x_sc_Q10.Goals as goal

pub returns : goal.returns
unfolding x_sc_Q10
returns c = let f = c.ranges in got32 c.smulwb.result c.smulwb.type_inv ∙ rw (read f.x, read f.inv26) at c.smulwb.ensures
