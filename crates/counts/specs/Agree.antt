-- What counts of a call, and what of a state: docs/RULES.md, "What counts", item by item and in its order. `Agree` asks that two calls are equal in
-- everything that is given, but for what that list takes out; nothing is cleared, cut or defaulted first. Assumes nothing.
use Rattle.std.specs.Prelude.{ℕ, ◌+◌, ◌*◌, ◌<◌, ◌≡◌, true, List, length, ℤ}
use Rattle.fixed.specs.Wrap.{wrap16}
use Rattle.silk.specs.declared.structs.NsqState.{NsqState}
use Rattle.fixed.specs.Row.{word}
use Rattle.refusal_rules.specs.Code.{code_of}
use Rattle.limits.specs.Count.{nat_z}
use Rattle.limits.specs.Tests.{last_of}
use Rattle.steps.specs.Call.{Call}
use Rattle.steps.specs.Entry.{Outcome}
use Rattle.counts.specs.Conditions.{voiced, one_row, row_zero_only, no_lag}

-- ---- rows
-- two rows of one length whose first m words are equal
pub record Alike (m : ℕ) (s t : List ℤ) : Type 0 where
  pub long : length s ≡ length t
  pub words : (i : ℕ) → i < m → word s i ≡ word t i

-- two rows of one length whose words are equal in their low 16 bits
pub record LowAlike (s t : List ℤ) : Type 0 where
  pub long : length s ≡ length t
  pub words : (i : ℕ) → i < length s → wrap16 (word s i) ≡ wrap16 (word t i)

-- ---- conditions of the list: a test of specs/Conditions.antt holds of the call
-- a frame of type 2
abbrev pub Voiced : Call → Type 0
Voiced c = voiced c.settings ≡ true

-- interpolation 4: one row of prediction coefficients for all subframes
abbrev pub OneRow : Call → Type 0
OneRow c = one_row c.settings ≡ true

-- n is 2 and interpolation is not 4: row 1 is not reached
abbrev pub RowZeroOnly : Call → Type 0
RowZeroOnly c = row_zero_only c.settings ≡ true

-- not voiced, and no lag from the frame before
abbrev pub NoLag : Call → Type 0
NoLag c = no_lag c.settings c.state.lagPrev ≡ true

-- ---- the words of a state that count but lagPrev, with L. (A state's rows have one length each: they are arrays of 640, 640 and 96 words.)
pub record StateAgree (l : ℕ) (s t : NsqState) : Type 0 where
  -- history and shaping words below 4L
  pub xq : Alike (4 * l) s.xq t.xq
  pub shp : Alike (4 * l) s.sLTP_shp_Q14 t.sLTP_shp_Q14
  -- LPC words 0 to 15
  pub lpc : Alike 16 s.sLPC_Q14 t.sLPC_Q14
  -- all 24 filter words, and the scalars
  pub ar2 : s.sAR2_Q14 ≡ t.sAR2_Q14
  pub lf : s.sLF_AR_shp_Q14 ≡ t.sLF_AR_shp_Q14
  pub diff : s.sDiff_shp_Q14 ≡ t.sDiff_shp_Q14
  pub gain : s.prev_gain_Q16 ≡ t.prev_gain_Q16

-- ---- two calls, c with samples x and a row p for its pulses, d with samples y and a row q
pub record Agree (c : Call) (x p : List ℤ) (d : Call) (y q : List ℤ) : Type 0 where
  -- everything given counts:
  pub subfr_length : c.settings.subfr_length ≡ d.settings.subfr_length
  pub nb_subfr : c.settings.nb_subfr ≡ d.settings.nb_subfr
  pub predictLPCOrder : c.settings.predictLPCOrder ≡ d.settings.predictLPCOrder
  pub shapingLPCOrder : c.settings.shapingLPCOrder ≡ d.settings.shapingLPCOrder
  pub nStatesDelayedDecision : c.settings.nStatesDelayedDecision ≡ d.settings.nStatesDelayedDecision
  pub signalType : c.settings.signalType ≡ d.settings.signalType
  pub quantOffsetType : c.settings.quantOffsetType ≡ d.settings.quantOffsetType
  pub NLSFInterpCoef_Q2 : c.settings.NLSFInterpCoef_Q2 ≡ d.settings.NLSFInterpCoef_Q2
  pub Seed : c.settings.Seed ≡ d.settings.Seed
  pub Lambda_Q10 : c.settings.Lambda_Q10 ≡ d.settings.Lambda_Q10
  pub samples : x ≡ y
  pub lf : c.LF_shp_Q14 ≡ d.LF_shp_Q14
  pub gains : c.Gains_Q16 ≡ d.Gains_Q16
  -- but PredCoef slots from the order on; row 0 when interpolation is 4; row 1 when n is 2 and interpolation is not 4
  pub pred_long : length c.PredCoef_Q12 ≡ length d.PredCoef_Q12
  pub pred0 : (OneRow c → ⊥) → (j : ℕ) → j < nat_z c.settings.predictLPCOrder → word c.PredCoef_Q12 j ≡ word d.PredCoef_Q12 j
  pub pred1 : (RowZeroOnly c → ⊥) → (j : ℕ) → j < nat_z c.settings.predictLPCOrder → word c.PredCoef_Q12 (16 + j) ≡ word d.PredCoef_Q12 (16 + j)
  -- but AR slots from the shaping order on, in each subframe's 24
  pub ar_long : length c.AR_Q13 ≡ length d.AR_Q13
  pub ar : (k j : ℕ) → k < nat_z c.settings.nb_subfr → j < nat_z c.settings.shapingLPCOrder → word c.AR_Q13 (k * 24 + j) ≡ word d.AR_Q13 (k * 24 + j)
  -- but, not voiced, LTPCoef, LTP scale (below), all lags but the last; with lagPrev 0 too, the harmonic gains
  pub ltp_long : length c.LTPCoef_Q14 ≡ length d.LTPCoef_Q14
  pub ltp : Voiced c → c.LTPCoef_Q14 ≡ d.LTPCoef_Q14
  pub lags_long : length c.pitchL ≡ length d.pitchL
  pub lags : Voiced c → c.pitchL ≡ d.pitchL
  pub last : last_of c.pitchL ≡ last_of d.pitchL
  pub harm_long : length c.HarmShapeGain_Q14 ≡ length d.HarmShapeGain_Q14
  pub harm : (NoLag c → ⊥) → c.HarmShapeGain_Q14 ≡ d.HarmShapeGain_Q14
  -- but bits from 16 up of warping, tilt and LTP scale
  pub warping : wrap16 c.settings.warping_Q16 ≡ wrap16 d.settings.warping_Q16
  pub tilt : LowAlike c.Tilt_Q14 d.Tilt_Q14
  pub scale : Voiced c → wrap16 c.settings.LTP_scale_Q14 ≡ wrap16 d.settings.LTP_scale_Q14
  -- but, in a voiced frame, lagPrev
  pub lagPrev : (Voiced c → ⊥) → c.state.lagPrev ≡ d.state.lagPrev
  -- but what the pulse row held before
  pub pulses_long : length p ≡ length q
  -- but, of the state, the two positions, the flag, LPC words from 16 on, history and shaping words from 4L on
  pub state : StateAgree (nat_z c.settings.subfr_length) c.state d.state

-- ---- two outcomes
-- what an accepted call hands out: the pulses, the seed, and of the state what counts, lagPrev with it
pub record HandsOutSame (l : ℕ) (o u : Outcome) : Type 0 where
  pub pulses : o.pulses ≡ u.pulses
  pub seed : o.seed ≡ u.seed
  pub state : StateAgree l o.state u.state
  pub lagPrev : o.state.lagPrev ≡ u.state.lagPrev

-- the answer is the same, and so is what is handed out where it is number 0
pub record SameOutcome (l : ℕ) (o u : Outcome) : Type 0 where
  pub answer : o.answer ≡ u.answer
  pub hands_out : code_of o.answer ≡ 0 → HandsOutSame l o u

-- ---- later sound
-- with the decision delay d, samples from t on come too late for the pulse at place i
abbrev pub Decided : ℕ → ℕ → ℕ → Type 0
Decided d t i = i + d < t
