-- The conditions of `Agree` can be met, by calls that differ: whatever the pulse row held and the two positions and the flag of the state.
-- Assumes nothing.
use Prim.Native.Nat.{ℕ}
use mathlib.Core.Path.{◌≡◌, refl}
use mathlib.Core.List.{List}
use lib.ListN.{length}
use lib.IntN.{ℤ}
use Rattle.silk.specs.declared.structs.NsqState.{NsqState}
use Rattle.steps.specs.Call.{Call, call_of}
use Rattle.counts.specs.Agree.{Alike, StateAgree, Agree}

-- a state with other positions and another flag
abbrev pub unread : NsqState → ℤ → ℤ → ℤ → NsqState
unread s buf shp flag =
    record {
      xq = s.xq;
      sLTP_shp_Q14 = s.sLTP_shp_Q14;
      sLPC_Q14 = s.sLPC_Q14;
      sAR2_Q14 = s.sAR2_Q14;
      sLF_AR_shp_Q14 = s.sLF_AR_shp_Q14;
      sDiff_shp_Q14 = s.sDiff_shp_Q14;
      lagPrev = s.lagPrev;
      sLTP_buf_idx = buf;
      sLTP_shp_buf_idx = shp;
      prev_gain_Q16 = s.prev_gain_Q16;
      rewhite_flag = flag;
    }

-- a call with that state
abbrev pub unread_of : Call → ℤ → ℤ → ℤ → Call
unread_of c buf shp flag =
    call_of c.settings (unread c.state buf shp flag) c.PredCoef_Q12 c.LTPCoef_Q14 c.AR_Q13 c.HarmShapeGain_Q14 c.Tilt_Q14 c.LF_shp_Q14 c.Gains_Q16
    c.pitchL

row-refl : (m : ℕ) (s : List ℤ) → Alike m s s
row-refl m s = record { long = refl; words = λ i h. refl }

state-refl : (l : ℕ) (s : NsqState) (buf shp flag : ℤ) → StateAgree l s (unread s buf shp flag)
state-refl l s buf shp flag =
    record {
      xq = row-refl _ s.xq;
      shp = row-refl _ s.sLTP_shp_Q14;
      lpc = row-refl _ s.sLPC_Q14;
      ar2 = refl;
      lf = refl;
      diff = refl;
      gain = refl;
    }

pub agree-unread : (c : Call) (x p q : List ℤ) (buf shp flag : ℤ) → length p ≡ length q → Agree c x p (unread_of c buf shp flag) x q
agree-unread c x p q buf shp flag e =
    record {
      subfr_length = refl;
      nb_subfr = refl;
      predictLPCOrder = refl;
      shapingLPCOrder = refl;
      nStatesDelayedDecision = refl;
      signalType = refl;
      quantOffsetType = refl;
      NLSFInterpCoef_Q2 = refl;
      Seed = refl;
      Lambda_Q10 = refl;
      samples = refl;
      lf = refl;
      gains = refl;
      pred_long = refl;
      pred0 = λ v j h. refl;
      pred1 = λ v j h. refl;
      ar_long = refl;
      ar = λ k j h o. refl;
      ltp_long = refl;
      ltp = λ v. refl;
      lags_long = refl;
      lags = λ v. refl;
      last = refl;
      harm_long = refl;
      harm = λ v. refl;
      warping = refl;
      tilt = record { long = refl; words = λ i h. refl };
      scale = λ v. refl;
      lagPrev = λ v. refl;
      pulses_long = e;
      state = state-refl _ c.state buf shp flag;
    }
