-- The terms n_AR_Q14 and n_LF_Q14 of the shaped noise: `NSQ_del_dec.rs`, lines 674 to 683.
-- Assumes nothing.
use Rattle.std.specs.Prelude.{ℤ}
use Rattle.fixed.specs.Wrap.{wrap16}
use Rattle.fixed.specs.Shift.{shl32}
use Rattle.products.specs.Product.{smulwb, smlawb, smlawt}

-- n_AR_Q14 from the warped filter's sum n: << 1, then + (LF_AR_Q14 * (Tilt_Q14 as i16) >> 16), then << 2
unfoldable pub ar_term : ℤ → ℤ → ℤ → ℤ
ar_term n lfAR tilt = shl32 (smlawb (shl32 n 1) lfAR (wrap16 tilt)) 2

-- n_LF_Q14: Shape_Q14 * (LF_shp_Q14 as i16) >> 16, then + (LF_AR_Q14 * (LF_shp_Q14 >> 16) >> 16), then << 2
unfoldable pub lf_term : ℤ → ℤ → ℤ → ℤ
lf_term shape lfAR lf_shp = shl32 (smlawt (smulwb shape (wrap16 lf_shp)) lfAR lf_shp) 2
