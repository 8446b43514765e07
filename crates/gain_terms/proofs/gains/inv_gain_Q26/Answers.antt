-- `gain_terms::gains::inv_gain_Q26` meets its contract. Assumes nothing.
use mathlib.Core.Path.{◌∙◌}
use Rattle.word_steps.specs.Gains.{inv_gain_Q26}
use Rattle.fixed.proofs.Fit.{read, got32}
use Rattle.gain_terms.proofs.gains.inv_gain_Q26.Goals as goal

pub returns : goal.returns
unfolding inv_gain_Q26
returns c = let m = c.rshift_round in got32 m.result m.type_inv ∙ rw (read c.ranges.inv31) at m.ensures
