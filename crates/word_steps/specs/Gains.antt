-- What `silk_nsq_del_dec_scale_states` makes of a subframe's gain, line by line under the Rust's names.
-- Assumes nothing.
use Rattle.std.specs.Prelude.{ℤ, pos}
use Rattle.std.specs.Int.Signed.{lt_z}
use Rattle.fixed.specs.Wrap.{wrap16}
use Rattle.fixed.specs.Shift.{shl32, rround}
use Rattle.products.specs.Product.{smulwb}
use Rattle.fixed.specs.Iter.{either}
use Rattle.word_steps.specs.Inlines.{silk_INVERSE32_varQ, silk_DIV32_varQ}

-- if gain > 1 { gain } else { 1 }
unfoldable pub at_least_one : ℤ → ℤ
at_least_one gain = either (lt_z (pos 1) gain) gain (pos 1)

-- the inverse of the gain, in Q31 of a gain in Q16
unfoldable pub inv_gain_Q31 : ℤ → ℤ
inv_gain_Q31 gain = silk_INVERSE32_varQ (at_least_one gain) 47

-- the same in Q26: a rounded shift by 5
unfoldable pub inv_gain_Q26 : ℤ → ℤ
inv_gain_Q26 inv31 = rround inv31 5

-- an input sample over the gain, in Q10: (x * inv_gain_Q26) >> 16
unfoldable pub x_sc_Q10 : ℤ → ℤ → ℤ
x_sc_Q10 x inv26 = smulwb inv26 x

-- the inverse gain of subframe 0, scaled: ((inv_gain_Q31 * (LTP_scale_Q14 as i16)) >> 16) << 2
unfoldable pub ltp_scaled_inv_gain : ℤ → ℤ → ℤ
ltp_scaled_inv_gain inv31 LTP_scale_Q14 = shl32 (smulwb inv31 (wrap16 LTP_scale_Q14)) 2

-- what the words of the state are multiplied by where the gain changes, in Q16
unfoldable pub gain_adj_Q16 : ℤ → ℤ → ℤ
gain_adj_Q16 prev gain = silk_DIV32_varQ prev gain 16
