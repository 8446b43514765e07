-- Each contract leaves one outcome: two results that meet it are equal, and so are the words that a row is left with.
-- Assumes nothing.
use mathlib.Core.Path.{◌≡◌, sym, ◌∙◌}
use Rattle.shaping.proofs.short_prediction.silk_noise_shape_quantizer_short_prediction.Reads as short-prediction
use Rattle.shaping.proofs.long_prediction.ltp_prediction.Reads as ltp-prediction
use Rattle.shaping.proofs.start.half_order.Reads as half-order

pub silk-noise-shape-quantizer-short-prediction-unique : (κs a r s e : _) → short-prediction.Post κs a r e → short-prediction.Post κs a s e → r ≡ s
silk-noise-shape-quantizer-short-prediction-unique κs a r s e p q = p ∙ sym q

pub ltp-prediction-unique : (κs a r s e : _) → ltp-prediction.Post κs a r e → ltp-prediction.Post κs a s e → r ≡ s
ltp-prediction-unique κs a r s e p q = p ∙ sym q

pub half-order-unique : (κs a r s e : _) → half-order.Post κs a r e → half-order.Post κs a s e → r ≡ s
half-order-unique κs a r s e p q = p ∙ sym q
