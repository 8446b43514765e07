-- Numbers at which a slip in a definition would show, by computation.
-- Assumes nothing.
use mathlib.Core.Path.{◌≡◌, refl}
use lib.IntN.{pos, negsuc}
use Rattle.fixed.specs.Wrap.{wrap_to, wrap8, wrap32}
use Rattle.fixed.specs.Range.{clamp, sat16}
use Rattle.fixed.specs.Shift.{shr, rround}
use Rattle.products.specs.Product.{smulww}
use Rattle.residuals.specs.Residual as residuals
use Rattle.noise.specs.Output.{pulse_of, xq_out}
use Rattle.noise.specs.Residual.{predicted, residual}

-- levels 511, 512, -512 and -513: the middle goes up, also below 0; and 131072 is 128, which wraps to -128
pub pulse-rounds : (pulse_of (pos 511) ≡ pos 0) × (pulse_of (pos 512) ≡ pos 1) × (pulse_of (negsuc 511) ≡ pos 0) × (pulse_of (negsuc 512) ≡ negsuc 0) × (pulse_of (pos 131072) ≡ negsuc 127)
unfolding pulse_of residuals.pulse_of rround shr wrap8 wrap_to
pulse-rounds = (refl, refl, refl, refl, refl)

-- a gain of 1.0 in 16 places: 128 is the half that goes up by a shift of 8, and both ends are held to 16 bits
pub output-rounds : (xq_out (pos 127) (pos 65536) 8 ≡ pos 0) × (xq_out (pos 128) (pos 65536) 8 ≡ pos 1) × (xq_out (pos 2147483647) (pos 65536) 8 ≡ pos 32767) × (xq_out (negsuc 2147483647) (pos 65536) 14 ≡ negsuc 32767)
unfolding xq_out sat16 clamp rround shr smulww wrap32 wrap_to
output-rounds = (refl, refl, refl, refl)

-- noise counts against the prediction: -8 of prediction less 0 of noise rounds to 0, -9 to -1
pub residual-signs : (residual (pos 0) (pos 0) (pos 16) (pos 0) (pos 5) ≡ pos 4) × (residual (pos 16) (pos 0) (pos 0) (pos 0) (pos 5) ≡ pos 6) × (residual (pos 8) (pos 0) (pos 0) (pos 0) (pos 0) ≡ pos 0) × (residual (pos 9) (pos 0) (pos 0) (pos 0) (pos 0) ≡ pos 1)
unfolding residual predicted rround shr wrap32 wrap_to
residual-signs = (refl, refl, refl, refl)
