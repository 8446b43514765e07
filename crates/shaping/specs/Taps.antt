-- The two predictions of `NSQ_del_dec.rs`, both a sum of taps: silk_noise_shape_quantizer_short_prediction_c (lines 8 to 66)
-- and LTP_pred_Q14 (lines 592 to 608). The Rust writes the taps out one by one; here they are the turns of one loop.
-- A pointer that is read backwards is a row and the place `at` where it stands.
-- Assumes nothing.
use Rattle.std.specs.Prelude.{ℕ, ◌+◌, ◌-◌, ◌/◌, List, eqb, ℤ, pos, get_or}
use Rattle.fixed.specs.Iter.{iter, either}
use Rattle.products.specs.Product.{smlawb}
use Rattle.fixed.specs.Shift.{shl32}

-- tap j: out += row[at - j] * coef[j] >> 16
abbrev pub tap : List ℤ → ℕ → List ℤ → ℕ → ℤ → ℤ
tap row at coef j out = smlawb out (get_or row (at - j) (pos 0)) (get_or coef j (pos 0))

-- `count` taps from tap `from` on
abbrev pub taps_from : List ℤ → ℕ → List ℤ → ℕ → ℕ → ℤ → ℤ
taps_from row at coef from count out = iter (λ j. tap row at coef (from + j)) count out

-- ten taps, or sixteen where order == 16. The Rust gives ten to any other order; 10 and 16 are those that are used,
-- and there this is the order itself (proofs/TapCount.antt, `tap-count`)
abbrev pub tap_count : ℕ → ℕ
tap_count order = either (eqb order 16) 16 10

-- out = order >> 1, then the taps
unfoldable pub short_prediction : List ℤ → ℕ → List ℤ → ℕ → ℤ
short_prediction buf at coef order = iter (tap buf at coef) (tap_count order) (pos (order / 2))

-- LTP_pred_Q14 = 2, then taps 0 to 4, then << 1
unfoldable pub long_prediction : List ℤ → ℕ → List ℤ → ℤ
long_prediction row at b = shl32 (iter (tap row at b) 5 (pos 2)) 1
