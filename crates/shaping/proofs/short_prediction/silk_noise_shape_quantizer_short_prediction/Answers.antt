-- `shaping::short_prediction::silk_noise_shape_quantizer_short_prediction` meets its contract. Assumes nothing.
use Prim.Native.Nat.{◌/◌}
use mathlib.Core.Path.{◌∙◌}
use lib.IntN.{pos}
use Rattle.fixed.proofs.Fit.{got32}
use Rattle.shaping.specs.Taps.{tap, short_prediction}
use Rattle.shaping.proofs.TapCount.{runs-of-16, run-of-10}
use Rattle.shaping.proofs.short_prediction.silk_noise_shape_quantizer_short_prediction.Goals as goal

pub returns-then-order-eq16 : goal.returns-then-order-eq16
unfolding short_prediction
returns-then-order-eq16 c =
    let a = c.args in
    let s = got32 c.half_order-start.result c.half_order-start.type_inv ∙ c.half_order-start.ensures in
    got32 c.taps.result c.taps.type_inv
    ∙ runs-of-16 (tap a.buf.now a.at a.coef.now) a.order (pos (a.order / 2)) c.taps-ten.result c.taps.result
    c.if-order-eq16.true
    (rw s at c.taps-ten.ensures)
    (rw (got32 c.taps-ten.result c.taps-ten.type_inv) at c.taps.ensures)

pub returns-else-order-eq16 : goal.returns-else-order-eq16
unfolding short_prediction
returns-else-order-eq16 c =
    let a = c.args in
    let s = got32 c.half_order-start.result c.half_order-start.type_inv ∙ c.half_order-start.ensures in
    got32 c.taps-ten.result c.taps-ten.type_inv
    ∙ run-of-10 (tap a.buf.now a.at a.coef.now) a.order (pos (a.order / 2)) c.taps-ten.result
    c.if-order-eq16.false
    (rw s at c.taps-ten.ensures)
