-- What all paths share at a sample: the long-term prediction, the harmonic noise term and the input, scaled here sample by sample
-- (silk_noise_shape_quantizer_del_dec of NSQ_del_dec.rs). Assumes nothing.
use Rattle.std.specs.Prelude.{ℕ, ◌+◌, ◌-◌, ◌*◌, List, ℤ, pos, ltb}
use Rattle.fixed.specs.Iter.{either}
use Rattle.word_steps.specs.Gains.{x_sc_Q10}
use Rattle.shaping.specs.Taps.{long_prediction}
use Rattle.word_steps.specs.Harmonic.{ltp_term}
use Rattle.path.specs.declared.structs.Fix.{Fix}
use Rattle.path.specs.declared.structs.Common.{Common}
use Rattle.fixed.specs.Row.{word}
use Rattle.path.specs.Data.{Running, Rows}

-- LTP_pred_Q14 at sample i: five work-row words around the place a lag back, only in a voiced frame
unfoldable pub predicted : Fix → List ℤ → List ℤ → ℕ → ℤ
predicted f b ltp i = either f.voiced (long_prediction ltp (f.buf + i + 2 - f.lag) b) (pos 0)

-- n_LTP_Q14 at sample i: three shaping words around the place a lag back, only where there is a lag
unfoldable pub harmonic : Fix → ℤ → List ℤ → ℕ → ℤ → ℤ
harmonic f packed shp i ltp_pred =
    either (ltb 0 f.lag) (ltp_term shp (4 * f.subfr_length + f.base + i + 1 - f.lag) packed ltp_pred) (pos 0)

-- with the prediction in hand
abbrev pub common_from : Fix → ℤ → List ℤ → List ℤ → ℕ → ℤ → Common
common_from f packed shp x i ltp_pred =
    record {
      x_Q10 = x_sc_Q10 (word x (f.base + i)) f.inv_gain_Q26;
      LTP_pred_Q14 = ltp_pred;
      n_LTP_Q14 = harmonic f packed shp i ltp_pred;
    }

-- what all paths share at sample i; the input is scaled here, sample by sample
unfoldable pub common : Fix → Rows → List ℤ → ℕ → Running → Common
common f v x i t =
    common_from f v.half.HarmShapeFIRPacked_Q14 t.sLTP_shp_Q14 x i (predicted f v.b t.core.sLTP_Q15 i)
