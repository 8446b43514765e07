-- The harmonic noise shaping: the packed gain (`NSQ_del_dec.rs`, lines 233 to 235) and n_LTP_Q14 (lines 614 to 621).
-- Assumes nothing.
use Rattle.std.specs.Prelude.{ℕ, ◌-◌, List, ℤ, pos, ◌+ℤ◌, ◌-ℤ◌, get_or}
use Rattle.fixed.specs.Wrap.{wrap16, wrap32}
use Rattle.fixed.specs.Shift.{or32, shl32, shr32}
use Rattle.products.specs.Product.{smulwb, smlawt}

-- HarmShapeFIRPacked_Q14: gain >> 2, then |= (gain >> 1) << 16
unfoldable pub packed_gain : ℤ → ℤ
packed_gain gain = or32 (shr32 gain 2) (shl32 (shr32 gain 1) 16)

-- the word of the row at `at`
abbrev pub word : List ℤ → ℕ → ℤ
word row at = get_or row at (pos 0)

-- (shp[at] + shp[at - 2]) * (packed as i16) >> 16, then + (shp[at - 1] * (packed >> 16) >> 16)
unfoldable pub shaped_lag : List ℤ → ℕ → ℤ → ℤ
shaped_lag shp at packed =
    smlawt (smulwb (wrap32 (word shp at +ℤ word shp (at - 2))) (wrap16 packed)) (word shp (at - 1)) packed

-- n_LTP_Q14 = LTP_pred_Q14 - (the above << 2)
unfoldable pub ltp_term : List ℤ → ℕ → ℤ → ℤ → ℤ
ltp_term shp at packed ltp_pred = wrap32 (ltp_pred -ℤ shl32 (shaped_lag shp at packed) 2)
