-- What a coded sample hands out: `NSQ_del_dec.rs`, lines 861 to 921, and in the flush of the middle lines 275 to 330.
-- Assumes nothing.
use Rattle.std.specs.Prelude.{ℕ, ℤ}
use Rattle.fixed.specs.Wrap.{wrap8}
use Rattle.fixed.specs.Shift.{rround}
use Rattle.fixed.specs.Range.{sat16}
use Rattle.products.specs.Product.{smulww}
use Rattle.residuals.specs.Residual as residuals

-- the pulse that is handed out for the level Q_Q10: its pulse, as i8
unfoldable pub pulse_of : ℤ → ℤ
pulse_of q = wrap8 (residuals.pulse_of q)

-- the output sample: (Xq_Q14 * gain >> 16) as i32, rounded shift by `places`, held to 16 bits
unfoldable pub xq_out : ℤ → ℤ → ℕ → ℤ
xq_out xq gain places = sat16 (rround (smulww xq gain) places)
