-- A call, and what the frame reads off it: the top of silk_NSQ_del_dec_c of NSQ_del_dec.rs and docs/RULES.md, "One frame". The Rust's counters
-- (subfr, sLTP_buf_idx, sLTP_shp_buf_idx, rewhite_flag, lag) are functions of the call and of the subframe's number k. The frame goes by `Given`: the
-- settings of an accepted call, turned once into counts. Assumes nothing.
use Rattle.std.specs.Prelude.{ℕ, ◌+◌, ◌-◌, ◌*◌, ◌/◌, ◌≤◌, ◌<◌, min, ◌≡◌, Bool, true, not, ◌&&◌, List, length, take, drop, ℤ, pos, ◌≤ℤ◌, eqb, leb, ltb}
use Rattle.fixed.specs.Iter.{iter, either}
use Rattle.silk.specs.declared.structs.Settings.{Settings}
use Rattle.silk.specs.declared.structs.NsqState.{NsqState}
use Rattle.word_steps.specs.Gains.{inv_gain_Q31, inv_gain_Q26, ltp_scaled_inv_gain}
use Rattle.residuals.specs.Offset.{offset_of}
use Rattle.word_steps.specs.Harmonic.{packed_gain}
use Rattle.path.specs.declared.structs.Fix.{Fix}
use Rattle.path.specs.declared.structs.Halves.{Halves}
use Rattle.fixed.specs.Row.{word}
use Rattle.path.specs.Data.{Rows, rows}
use Rattle.limits.specs.Count.{nat_z, same_z}
use Rattle.steps.specs.declared.structs.Given.{Given}

-- all that a call is given but its samples and the row for its pulses
pub record Call : Type 0 where
  pub settings : Settings
  pub state : NsqState
  pub PredCoef_Q12 : List ℤ
  pub LTPCoef_Q14 : List ℤ
  pub AR_Q13 : List ℤ
  pub HarmShapeGain_Q14 : List ℤ
  pub Tilt_Q14 : List ℤ
  pub LF_shp_Q14 : List ℤ
  pub Gains_Q16 : List ℤ
  pub pitchL : List ℤ

-- all of it together
abbrev pub call_of : Settings → NsqState → List ℤ → List ℤ → List ℤ → List ℤ → List ℤ → List ℤ → List ℤ → List ℤ → Call
call_of s state pred ltp ar harm tilt lf gains lags =
    record {
      settings = s;
      state = state;
      PredCoef_Q12 = pred;
      LTPCoef_Q14 = ltp;
      AR_Q13 = ar;
      HarmShapeGain_Q14 = harm;
      Tilt_Q14 = tilt;
      LF_shp_Q14 = lf;
      Gains_Q16 = gains;
      pitchL = lags;
    }

-- ---- what is given, as counts
-- is the frame voiced? By signalType
unfoldable pub voiced_by : ℤ → Bool
voiced_by kind = same_z kind (pos 2)

-- LSF_interpolation_flag, by NLSFInterpCoef_Q2
unfoldable pub interpolated_by : ℤ → Bool
interpolated_by interp = not (same_z interp (pos 4))

-- D is lowered to lag - 3
unfoldable pub lowered : ℕ → ℕ → ℕ
lowered d lag = min d (lag - 3)

-- by lag k of the row
abbrev pub delay_turn : List ℤ → ℕ → ℕ → ℕ
delay_turn lags k d = lowered d (nat_z (word lags k))

-- D in a voiced frame: by each of the n lags
unfoldable pub voiced_delay : ℕ → ℕ → List ℤ → ℕ
voiced_delay l n lags = iter (delay_turn lags) n (min 40 l)

-- D in another frame: by lagPrev, where it is not 0
unfoldable pub quiet_delay : ℕ → ℕ → ℕ
quiet_delay l lagPrev = either (ltb 0 lagPrev) (lowered (min 40 l) lagPrev) (min 40 l)

-- D, the decision delay
unfoldable pub delay_by : Bool → ℕ → ℕ → ℕ → List ℤ → ℕ
delay_by voiced l n lagPrev lags = either voiced (voiced_delay l n lags) (quiet_delay l lagPrev)

-- the settings, the state's lagPrev and the lags, turned into counts
unfoldable pub given_by : Settings → ℤ → List ℤ → Given
given_by s lagPrev lags =
    record {
      subfr_length = nat_z s.subfr_length;
      nb_subfr = nat_z s.nb_subfr;
      predictLPCOrder = nat_z s.predictLPCOrder;
      shapingLPCOrder = nat_z s.shapingLPCOrder;
      nStates = nat_z s.nStatesDelayedDecision;
      voiced = voiced_by s.signalType;
      interpolated = interpolated_by s.NLSFInterpCoef_Q2;
      offset_Q10 = offset_of (nat_z s.signalType) (nat_z s.quantOffsetType);
      Lambda_Q10 = s.Lambda_Q10;
      LTP_scale_Q14 = s.LTP_scale_Q14;
      warping_Q16 = s.warping_Q16;
      seed = nat_z s.Seed;
      lagPrev = nat_z lagPrev;
      delay = delay_by (voiced_by s.signalType) (nat_z s.subfr_length) (nat_z s.nb_subfr) (nat_z lagPrev) lags;
    }

-- of a call
abbrev pub given_of : Call → Given
given_of c = given_by c.settings c.state.lagPrev c.pitchL

-- L, the subframe length
abbrev pub length_of : Call → ℕ
length_of c = (given_of c).subfr_length

-- n, the subframe count
abbrev pub count_of : Call → ℕ
count_of c = (given_of c).nb_subfr

-- how many paths
abbrev pub paths_of : Call → ℕ
paths_of c = (given_of c).nStates

-- is the frame voiced?
abbrev pub voiced : Call → Bool
voiced c = (given_of c).voiced

-- LSF_interpolation_flag
abbrev pub interpolated : Call → Bool
interpolated c = (given_of c).interpolated

-- D, the decision delay
abbrev pub delay_of : Call → ℕ
delay_of c = (given_of c).delay

-- ---- where subframe k stands, by what is given and then of a call
-- the lag of subframe k: of the row in a voiced frame, else lagPrev
unfoldable pub lag_by : Given → List ℤ → ℕ → ℕ
lag_by g lags k = either g.voiced (nat_z (word lags k)) g.lagPrev

-- that lag, of a call
abbrev pub lag_of : Call → ℕ → ℕ
lag_of c k = lag_by (given_of c) c.pitchL k

-- is a frame's second half rewhitened too?
unfoldable pub twice_by : Given → Bool
twice_by g = g.voiced && g.interpolated

-- is subframe k the second one to be rewhitened, with the flush before it?
unfoldable pub second_by : Given → ℕ → Bool
second_by g k = twice_by g && eqb k 2

-- whether it is that one, of a call
abbrev pub second : Call → ℕ → Bool
second c k = second_by (given_of c) k

-- is subframe k rewhitened?
unfoldable pub rewhites_by : Given → ℕ → Bool
rewhites_by g k = either (eqb k 0) g.voiced (second_by g k)

-- whether it is, of a call
abbrev pub rewhites : Call → ℕ → Bool
rewhites c k = rewhites_by (given_of c) k

-- subframes since output was last held back: the Rust's subfr
unfoldable pub since_by : Given → ℕ → ℕ
since_by g k = either (twice_by g && leb 2 k) (k - 2) k

-- that number, of a call
abbrev pub since : Call → ℕ → ℕ
since c k = since_by (given_of c) k

-- which row of prediction coefficients: row 1 for all, or row k >> 1
unfoldable pub row_by : Given → ℕ → ℕ
row_by g k = either g.interpolated (k / 2) 1

-- that row, of a call
abbrev pub row_of : Call → ℕ → ℕ
row_of c k = row_by (given_of c) k

-- ---- what subframe k works with
-- its scalars, by what is given and the rows of lags, of LF_shp_Q14 and of gains
unfoldable pub fix_by : Given → List ℤ → List ℤ → List ℤ → ℕ → Fix
fix_by g lags lf gains k =
    record {
      subfr_length = g.subfr_length;
      predictLPCOrder = g.predictLPCOrder;
      shapingLPCOrder = g.shapingLPCOrder;
      nStates = g.nStates;
      voiced = g.voiced;
      offset_Q10 = g.offset_Q10;
      Lambda_Q10 = g.Lambda_Q10;
      lag = lag_by g lags k;
      LF_shp_Q14 = word lf k;
      Gain_Q16 = word gains k;
      inv_gain_Q26 = inv_gain_Q26 (inv_gain_Q31 (word gains k));
      decisionDelay = g.delay;
      base = k * g.subfr_length;
      buf = 4 * g.subfr_length + since_by g k * g.subfr_length;
      first = eqb (since_by g k) 0;
    }

-- those scalars, of a call
abbrev pub fix_of : Call → ℕ → Fix
fix_of c k = fix_by (given_of c) c.pitchL c.LF_shp_Q14 c.Gains_Q16 k

-- its words of which a half is read, by the rows of Tilt_Q14 and of HarmShapeGain_Q14
unfoldable pub halves_by : Given → List ℤ → List ℤ → ℕ → Halves
halves_by g tilt harm k =
    record {
      warping_Q16 = g.warping_Q16;
      Tilt_Q14 = word tilt k;
      HarmShapeFIRPacked_Q14 = packed_gain (word harm k);
    }

-- those words, of a call
abbrev pub halves_of : Call → ℕ → Halves
halves_of c k = halves_by (given_of c) c.Tilt_Q14 c.HarmShapeGain_Q14 k

-- its rows: 16 prediction coefficients, 5 of long-term prediction, 24 of shaping
unfoldable pub rows_by : Given → List ℤ → List ℤ → List ℤ → List ℤ → List ℤ → ℕ → Rows
rows_by g pred ltp ar tilt harm k =
    rows (take 16 (drop (row_by g k * 16) pred)) (take 5 (drop (k * 5) ltp)) (take 24 (drop (k * 24) ar)) (halves_by g tilt harm k)

-- those rows, of a call
abbrev pub rows_of : Call → ℕ → Rows
rows_of c k = rows_by (given_of c) c.PredCoef_Q12 c.LTPCoef_Q14 c.AR_Q13 c.Tilt_Q14 c.HarmShapeGain_Q14 k

-- what a rewhitened work row is multiplied by, by the gain: with the LTP scale at subframe 0 only
unfoldable pub white_by : Given → ℤ → ℕ → ℤ
white_by g gain k =
    either (eqb k 0) (ltp_scaled_inv_gain (inv_gain_Q31 gain) g.LTP_scale_Q14) (inv_gain_Q31 gain)

-- that factor, of a call
abbrev pub white_gain : Call → ℕ → ℤ
white_gain c k = white_by (given_of c) (word c.Gains_Q16 k) k

-- ---- what is known of what is given, where the call was good: facts on counts that follow from the settings' own limits
pub record Sound (g : Given) (lags : List ℤ) : Type 0 where
  pub long : 40 ≤ g.subfr_length
  pub short : g.subfr_length ≤ 80
  pub some : 2 ≤ g.nb_subfr
  pub few : g.nb_subfr ≤ 4
  pub order10 : 10 ≤ g.predictLPCOrder
  pub order16 : g.predictLPCOrder ≤ 16
  pub shaping2 : 2 ≤ g.shapingLPCOrder
  pub shaping24 : g.shapingLPCOrder ≤ 24
  pub paths1 : 0 < g.nStates
  pub paths4 : g.nStates ≤ 4
  pub seed3 : g.seed ≤ 3
  pub delay40 : g.delay ≤ 40
  pub delay_short : g.delay ≤ g.subfr_length
  pub lag_high : (k : ℕ) → k < g.nb_subfr → lag_by g lags k + g.predictLPCOrder + 2 < 4 * g.subfr_length
  pub lag_low : g.voiced ≡ true → (k : ℕ) → k < g.nb_subfr → 16 ≤ lag_by g lags k
  pub early : g.voiced ≡ true → (k : ℕ) → k < g.nb_subfr → g.delay + 3 ≤ lag_by g lags k

-- .. and of the rows: each holds what all subframes read, and each gain is 1 or more
pub record Stocked (g : Given) (x pred ltp ar tilt harm lf gains lags : List ℤ) : Type 0 where
  pub samples : g.nb_subfr * g.subfr_length ≤ length x
  pub pred_rows : 32 ≤ length pred
  pub ltp_rows : g.nb_subfr * 5 ≤ length ltp
  pub ar_rows : g.nb_subfr * 24 ≤ length ar
  pub tilts : g.nb_subfr ≤ length tilt
  pub harms : g.nb_subfr ≤ length harm
  pub lfs : g.nb_subfr ≤ length lf
  pub gain_words : g.nb_subfr ≤ length gains
  pub lag_words : g.nb_subfr ≤ length lags
  pub each : (k : ℕ) → k < g.nb_subfr → pos 1 ≤ℤ word gains k

-- there is room for the rewhitening in the history of 4L words: start_idx is above 0
pub record Room (f : Fix) : Type 0 where
  pub room : f.lag + f.predictLPCOrder + 2 < 4 * f.subfr_length
