-- `residuals::residual::seed_with` meets its contract. Assumes nothing.
use mathlib.Core.Path.{◌∙◌}
use Rattle.fixed.proofs.Fit.{read, got32}
use Rattle.residuals.specs.Residual.{seed_with}
use Rattle.residuals.proofs.residual.seed_with.Goals as goal

pub returns : goal.returns
unfolding seed_with
returns c =
    let f = c.ranges in
    let v = got32 c.pulse_of.result c.pulse_of.type_inv ∙ rw (read f.level) at c.pulse_of.ensures in
    got32 c.add32.result c.add32.type_inv ∙ rw (read f.seed, v) at c.add32.ensures
