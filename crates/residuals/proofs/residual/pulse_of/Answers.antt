-- `residuals::residual::pulse_of` meets its contract. Assumes nothing.
use mathlib.Core.Path.{◌∙◌}
use Rattle.fixed.proofs.Fit.{read, got32}
use Rattle.residuals.specs.Residual.{pulse_of}
use Rattle.residuals.proofs.residual.pulse_of.Goals as goal

pub returns : goal.returns
unfolding pulse_of
returns c = got32 c.rshift_round.result c.rshift_round.type_inv ∙ rw (read c.ranges.level) at c.rshift_round.ensures
