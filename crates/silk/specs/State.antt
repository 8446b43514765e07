-- The quantiser's state before the first frame: docs/RULES.md, "What a call is given"; and a state with another lag. The record is that of
-- src/structs.rt.
-- Assumes nothing.
use Rattle.std.specs.Prelude.{ℕ, List, replicate, ℤ, pos}
use Rattle.silk.specs.declared.structs.NsqState.{NsqState}

-- n words of 0; shut, so that a goal does not write out 640 of them
unfoldable pub zeros : ℕ → List ℤ
zeros n = replicate n (pos 0)

-- the lag that a fresh state holds: the one from which the encoder of RFC 6716 starts where it sets its rate (request E3; 0 before that)
unfoldable pub fresh_lag : ℤ
fresh_lag = pos 100

-- all zero but the lag above and the previous gain, which is 1 in Q16
unfoldable pub fresh_state : NsqState
fresh_state =
    record {
      xq = zeros 640;
      sLTP_shp_Q14 = zeros 640;
      sLPC_Q14 = zeros 96;
      sAR2_Q14 = zeros 24;
      sLF_AR_shp_Q14 = pos 0;
      sDiff_shp_Q14 = pos 0;
      lagPrev = fresh_lag;
      sLTP_buf_idx = pos 0;
      sLTP_shp_buf_idx = pos 0;
      prev_gain_Q16 = pos 65536;
      rewhite_flag = pos 0;
    }

-- a state with another lagPrev
abbrev pub with_lag : NsqState → ℤ → NsqState
with_lag z lag =
    record {
      xq = z.xq;
      sLTP_shp_Q14 = z.sLTP_shp_Q14;
      sLPC_Q14 = z.sLPC_Q14;
      sAR2_Q14 = z.sAR2_Q14;
      sLF_AR_shp_Q14 = z.sLF_AR_shp_Q14;
      sDiff_shp_Q14 = z.sDiff_shp_Q14;
      lagPrev = lag;
      sLTP_buf_idx = z.sLTP_buf_idx;
      sLTP_shp_buf_idx = z.sLTP_shp_buf_idx;
      prev_gain_Q16 = z.prev_gain_Q16;
      rewhite_flag = z.rewhite_flag;
    }
