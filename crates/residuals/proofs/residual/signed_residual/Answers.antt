-- `residuals::residual::signed_residual` meets its contract. Assumes nothing.
use mathlib.Core.Path.{◌∙◌}
use Rattle.fixed.proofs.Fit.{read, got32}
use Rattle.residuals.specs.Residual.{signed_residual}
use Rattle.residuals.proofs.residual.signed_residual.Goals as goal

pub returns : goal.returns
unfolding signed_residual
returns c =
    let f = c.ranges in
    let turned = got32 c.turned.result c.turned.type_inv ∙ c.turned.ensures in
    let clamped = got32 c.clamp32.result c.clamp32.type_inv ∙ c.clamp32.ensures in
    simp (turned, clamped, read f.seed, read f.r)
