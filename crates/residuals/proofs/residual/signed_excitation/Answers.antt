-- `residuals::residual::signed_excitation` meets its contract. Assumes nothing.
use mathlib.Core.Path.{◌∙◌}
use Rattle.fixed.proofs.Fit.{read, got32}
use Rattle.residuals.specs.Residual.{signed_excitation}
use Rattle.residuals.proofs.residual.signed_excitation.Goals as goal

pub returns : goal.returns
unfolding signed_excitation
returns c =
    let f = c.ranges in
    let v = got32 c.shl32.result c.shl32.type_inv ∙ rw (read f.level) at c.shl32.ensures in
    got32 c.turned.result c.turned.type_inv ∙ rw (read f.seed, v) at c.turned.ensures
