-- The pulse that is handed out. Assumes nothing.
use mathlib.Core.Path.{◌≡◌}
use lib.IntN.{ℤ}
use mir.Syntax.{w8}
use mir.Val.{SFits}
use Rattle.fixed.proofs.Wraps.{wrap8-id}
use Rattle.residuals.specs.Residual as residuals
use Rattle.noise.specs.Output.{pulse_of}

-- for a level whose pulse fits an i8 it is that pulse, the one which the seed takes
pub handed-pulse : (q : ℤ) → SFits w8 (residuals.pulse_of q) → pulse_of q ≡ residuals.pulse_of q
unfolding pulse_of
handed-pulse q f = wrap8-id f
