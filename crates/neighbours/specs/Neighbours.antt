-- Pairs of calls that differ in one word: the neighbour, which does count, of a thing that doesn't. Their outcomes are proved to differ
-- (proofs/Neighbours.antt), so no item of `Agree` (crate `counts`) that is next to one of the list could be left out. And one call under two rules of
-- replacement, the Rust's and one that copies two words later: the neighbour of those that `full_copy` shows to be alike. Assumes nothing.
use Rattle.std.specs.Prelude.{List, [], ◌∷◌, Bool, true, false, not, ◌&&◌, replicate, set, ℤ, pos, negsuc}
use Rattle.silk.specs.declared.structs.Settings.{Settings}
use Rattle.silk.specs.declared.structs.NsqState.{NsqState}
use Rattle.silk.specs.State.{fresh_state}
use Rattle.fixed.specs.Row.{word}
use Rattle.steps.specs.Among.{Rule, keeps_first}
use Rattle.limits.specs.Count.{same_z}
use Rattle.steps.specs.Call.{Call, call_of}
use Rattle.steps.specs.Entry.{Outcome, outcome}

-- ---- what is handed out
-- are two rows the same?
unfoldable pub same_row : List ℤ → List ℤ → Bool
same_row [] [] = true
same_row [] (b ∷ t) = false
same_row (a ∷ s) [] = false
same_row (a ∷ s) (b ∷ t) = same_z a b && same_row s t

-- a call on 80 samples of 5
unfoldable pub given : Call → Outcome
given c = outcome keeps_first c (replicate 80 (pos 5)) (replicate 80 (pos 0))

-- have all these calls other pulses than those?
unfoldable pub others : List ℤ → List Call → Bool
others r [] = true
others r (c ∷ l) = not (same_row r (given c).pulses) && others r l

-- have all these calls other pulses than this one?
unfoldable pub differ : Call → List Call → Bool
differ c l = others (given c).pulses l

-- ---- settings with shaping order 2
-- L, prediction order, n, path count, type, interpolation, warping, LTP scale
unfoldable pub settings_for : ℤ → ℤ → ℤ → ℤ → ℤ → ℤ → ℤ → ℤ → Settings
settings_for l order n paths kind interp warping scale =
    record {
      subfr_length = l;
      nb_subfr = n;
      predictLPCOrder = order;
      shapingLPCOrder = pos 2;
      nStatesDelayedDecision = paths;
      warping_Q16 = warping;
      signalType = kind;
      quantOffsetType = pos 0;
      NLSFInterpCoef_Q2 = interp;
      Seed = pos 0;
      Lambda_Q10 = pos 0;
      LTP_scale_Q14 = scale;
    }

-- ---- calls with L 40 and prediction order 10
-- n, path count, type, interpolation, warping, LTP scale
unfoldable pub settings_of : ℤ → ℤ → ℤ → ℤ → ℤ → ℤ → Settings
settings_of n paths kind interp warping scale = settings_for (pos 40) (pos 10) n paths kind interp warping scale

-- n 2 and one path
unfoldable pub settings : ℤ → ℤ → ℤ → ℤ → Settings
settings kind interp warping scale = settings_of (pos 2) (pos 1) kind interp warping scale

-- sLF_AR_shp_Q14, sDiff_shp_Q14, prev_gain_Q16, then history, shaping words, LPC words, filter words, lagPrev
unfoldable pub state_of : ℤ → ℤ → ℤ → List ℤ → List ℤ → List ℤ → List ℤ → ℤ → NsqState
state_of lf diff gain xq shp lpc ar2 lag =
    record {
      xq = xq;
      sLTP_shp_Q14 = shp;
      sLPC_Q14 = lpc;
      sAR2_Q14 = ar2;
      sLF_AR_shp_Q14 = lf;
      sDiff_shp_Q14 = diff;
      lagPrev = lag;
      sLTP_buf_idx = pos 0;
      sLTP_shp_buf_idx = pos 0;
      prev_gain_Q16 = gain;
      rewhite_flag = pos 0;
    }

-- with three scalars as they are in most calls below
unfoldable pub state : List ℤ → List ℤ → List ℤ → List ℤ → ℤ → NsqState
state xq shp lpc ar2 lag = state_of (pos 20000) (pos 20000) (pos 65536) xq shp lpc ar2 lag

-- the rows of the state: its history
unfoldable pub history : List ℤ
history = replicate 640 (pos 9)

-- its shaping words, one of them larger than the others
unfoldable pub shapes : List ℤ
shapes = set (replicate 640 (pos 30000)) 150 (pos 900000)

-- its LPC words
unfoldable pub lpcs : List ℤ
lpcs = replicate 96 (pos 40000)

-- its filter words
unfoldable pub filter : List ℤ
filter = replicate 24 (pos 30000)

-- the state with these rows, by its lagPrev
unfoldable pub after : ℤ → NsqState
after lag = state history shapes lpcs filter lag

-- the rows of the call: its PredCoef
unfoldable pub preds : List ℤ
preds = replicate 32 (pos 100)

-- its LTPCoef
unfoldable pub ltps : List ℤ
ltps = replicate 10 (pos 2000)

-- its AR coefficients
unfoldable pub ars : List ℤ
ars = replicate 48 (pos 500)

-- the same number for each of two subframes
unfoldable pub each : ℤ → List ℤ
each a = a ∷ a ∷ []

-- all but the settings and the state as above
unfoldable pub call : Settings → NsqState → Call
call s st = call_of s st preds ltps ars (each (pos 4000)) (each (pos 3000)) (each (pos 5000)) (each (pos 98304)) (each (pos 16))

-- not voiced, both coefficient rows
unfoldable pub quiet : Call
quiet = call (settings (pos 0) (pos 0) (pos 300) (pos 0)) (after (pos 16))

-- not voiced, interpolation 4: coefficient row 1 alone
unfoldable pub one : Call
one = call (settings (pos 0) (pos 4) (pos 300) (pos 0)) (after (pos 16))

-- voiced, with an LTP scale
unfoldable pub voiced : Call
voiced = call (settings (pos 2) (pos 0) (pos 300) (pos 16000)) (after (pos 16))

-- a call with another row of PredCoef
unfoldable pub with_pred : Call → List ℤ → Call
with_pred c r = call_of c.settings c.state r c.LTPCoef_Q14 c.AR_Q13 c.HarmShapeGain_Q14 c.Tilt_Q14 c.LF_shp_Q14 c.Gains_Q16 c.pitchL

-- with another row of LTPCoef
unfoldable pub with_ltp : Call → List ℤ → Call
with_ltp c r = call_of c.settings c.state c.PredCoef_Q12 r c.AR_Q13 c.HarmShapeGain_Q14 c.Tilt_Q14 c.LF_shp_Q14 c.Gains_Q16 c.pitchL

-- with other AR coefficients
unfoldable pub with_ar : Call → List ℤ → Call
with_ar c r = call_of c.settings c.state c.PredCoef_Q12 c.LTPCoef_Q14 r c.HarmShapeGain_Q14 c.Tilt_Q14 c.LF_shp_Q14 c.Gains_Q16 c.pitchL

-- with other harmonic gains
unfoldable pub with_harm : Call → List ℤ → Call
with_harm c r = call_of c.settings c.state c.PredCoef_Q12 c.LTPCoef_Q14 c.AR_Q13 r c.Tilt_Q14 c.LF_shp_Q14 c.Gains_Q16 c.pitchL

-- with other tilts
unfoldable pub with_tilt : Call → List ℤ → Call
with_tilt c r = call_of c.settings c.state c.PredCoef_Q12 c.LTPCoef_Q14 c.AR_Q13 c.HarmShapeGain_Q14 r c.LF_shp_Q14 c.Gains_Q16 c.pitchL

-- with other lags
unfoldable pub with_lags : Call → List ℤ → Call
with_lags c r = call_of c.settings c.state c.PredCoef_Q12 c.LTPCoef_Q14 c.AR_Q13 c.HarmShapeGain_Q14 c.Tilt_Q14 c.LF_shp_Q14 c.Gains_Q16 r

-- with AR coefficients of another size
unfoldable pub shaped : Call → Call
shaped c = with_ar c (replicate 48 (pos 2000))

-- ---- the pulses of each of these differ from those of the call that they are made from
-- made from `quiet`
unfoldable pub by_quiet : List Call
by_quiet =
    -- the last PredCoef slot below the order, of row 0
    with_pred quiet (set preds 9 (pos 4000))
    -- the last AR slot below the shaping order, of the last subframe
    ∷ with_ar quiet (set ars 25 (pos 16000))
    -- the harmonic gains where lagPrev is not 0
    ∷ with_harm quiet (each (pos 16000))
    -- bit 15 of a tilt
    ∷ with_tilt quiet (pos 3000 ∷ pos 35768 ∷ [])
    -- lagPrev
    ∷ call (settings (pos 0) (pos 0) (pos 300) (pos 0)) (after (pos 17))
    -- shaping word 4L - 1, LPC word 15
    ∷ call (settings (pos 0) (pos 0) (pos 300) (pos 0)) (state history (set shapes 159 (pos 90000)) lpcs filter (pos 16))
    ∷ call (settings (pos 0) (pos 0) (pos 300) (pos 0)) (state history shapes (set lpcs 15 (pos 900000)) filter (pos 16))
    -- sLF_AR_shp_Q14, prev_gain_Q16
    ∷ call (settings (pos 0) (pos 0) (pos 300) (pos 0)) (state_of (pos 200000) (pos 20000) (pos 65536) history shapes lpcs filter (pos 16))
    ∷ call (settings (pos 0) (pos 0) (pos 300) (pos 0)) (state_of (pos 20000) (pos 20000) (pos 300000) history shapes lpcs filter (pos 16))
    ∷ []

-- made from `shaped quiet`
unfoldable pub by_shaped : List Call
by_shaped =
    -- bit 15 of the warping
    shaped (call (settings (pos 0) (pos 0) (pos 33068) (pos 0)) (after (pos 16)))
    -- sDiff_shp_Q14
    ∷ shaped (call (settings (pos 0) (pos 0) (pos 300) (pos 0)) (state_of (pos 20000) (pos 200000) (pos 65536) history shapes lpcs filter (pos 16)))
    ∷ []

-- made from `one`
unfoldable pub by_one : List Call
by_one =
    -- the last PredCoef slot below the order, of row 1, where interpolation is 4
    with_pred one (set preds 25 (pos 4000)) ∷ []

-- made from `voiced`
unfoldable pub by_voiced : List Call
by_voiced =
    -- the last word of LTPCoef
    with_ltp voiced (set ltps 9 (pos 9000))
    -- a lag that is not the last
    ∷ with_lags voiced (pos 17 ∷ pos 16 ∷ [])
    -- bit 15 of the LTP scale
    ∷ call (settings (pos 2) (pos 0) (pos 300) (pos 48768)) (after (pos 16))
    ∷ []

-- ---- words of the state that is handed out, with one word of the call changed
-- not voiced: the last lag
unfoldable pub last_lag : ℤ → ℤ
last_lag a = (given (with_lags quiet (pos 16 ∷ a ∷ []))).state.lagPrev

-- history word 4L - 1, which moves down by N
unfoldable pub last_history : ℤ → ℤ
last_history a =
    word (given (call (settings (pos 0) (pos 0) (pos 300) (pos 0)) (state (set history 159 a) shapes lpcs filter (pos 16)))).state.xq 79

-- filter word 23
unfoldable pub last_filter : ℤ → ℤ
last_filter a =
    word (given (call (settings (pos 0) (pos 0) (pos 300) (pos 0)) (state history shapes lpcs (set filter 23 a) (pos 16)))).state.sAR2_Q14 23

-- ---- n 4: row 1 of PredCoef counts where interpolation is not 4. The pulses, by PredCoef
unfoldable pub four : List ℤ → List ℤ
four pred =
    (outcome keeps_first
    (call_of (settings_of (pos 4) (pos 1) (pos 0) (pos 0) (pos 300) (pos 0)) (after (pos 16)) pred (replicate 20 (pos 2000)) (replicate 96 (pos 500))
    (replicate 4 (pos 4000)) (replicate 4 (pos 3000)) (replicate 4 (pos 5000)) (replicate 4 (pos 98304)) (replicate 4 (pos 16)))
    (replicate 160 (pos 5))
    (replicate 160 (pos 0))
    ).pulses

-- ---- later sound: two paths, voiced, lags 16, so D is 13; and 80 samples
unfoldable pub tight : Call
tight =
    call_of (settings_of (pos 2) (pos 2) (pos 2) (pos 4) (pos 0) (pos 0)) fresh_state (replicate 32 (pos 0)) (replicate 10 (pos 0)) (replicate 48 (pos 0)) (each (pos 0))
    (each (pos 0)) (each (pos 0)) (each (pos 131072)) (each (pos 16))

-- its samples
unfoldable pub tight_samples : List ℤ
tight_samples =
    negsuc 3 ∷ pos 2 ∷ negsuc 1 ∷ negsuc 5 ∷ pos 6 ∷ negsuc 5 ∷ pos 0 ∷ pos 8 ∷ pos 4 ∷ negsuc 3 ∷ pos 4 ∷ negsuc 3 ∷ pos 0 ∷ pos 0 ∷ negsuc 3 ∷
    pos 0 ∷ pos 6 ∷ pos 8 ∷ pos 1 ∷ pos 0 ∷ negsuc 3 ∷ pos 8 ∷ pos 8 ∷ pos 8 ∷ pos 2 ∷ negsuc 1 ∷ negsuc 5 ∷ negsuc 5 ∷ pos 4 ∷ pos 8 ∷
    negsuc 5 ∷ negsuc 1 ∷ pos 6 ∷ pos 2 ∷ pos 2 ∷ pos 2 ∷ pos 0 ∷ pos 8 ∷ negsuc 3 ∷ negsuc 7 ∷ pos 0 ∷ pos 2 ∷ negsuc 3 ∷ pos 2 ∷ pos 8 ∷
    pos 6 ∷ pos 0 ∷ pos 0 ∷ negsuc 1 ∷ pos 4 ∷ negsuc 5 ∷ pos 8 ∷ negsuc 1 ∷ negsuc 5 ∷ pos 6 ∷ negsuc 7 ∷ pos 4 ∷ pos 2 ∷ pos 4 ∷ pos 2 ∷
    pos 8 ∷ pos 0 ∷ pos 4 ∷ pos 2 ∷ negsuc 7 ∷ negsuc 5 ∷ pos 0 ∷ pos 4 ∷ negsuc 3 ∷ pos 0 ∷ negsuc 1 ∷ pos 6 ∷ negsuc 3 ∷ negsuc 1 ∷ negsuc 1 ∷
    pos 4 ∷ negsuc 7 ∷ negsuc 1 ∷ negsuc 1 ∷ pos 6 ∷ []

-- the pulse at place 18 = 31 - D, by sample 31
unfoldable pub by_late : ℤ → ℤ
by_late a = word (outcome keeps_first tight (set tight_samples 31 a) (replicate 80 (pos 0))).pulses 18

-- ---- the rule of replacement: two paths, L 80, prediction order 16, 160 samples of 1. Of all coefficients only the one that reads the oldest of the
-- 16 LPC words is not 0
unfoldable pub oldest : Call
oldest =
    call_of (settings_for (pos 80) (pos 16) (pos 2) (pos 2) (pos 0) (pos 4) (pos 0) (pos 0)) fresh_state (set (replicate 32 (pos 0)) 31 (pos 8000)) (replicate 10 (pos 0))
    (replicate 48 (pos 0)) (each (pos 0)) (each (pos 0)) (each (pos 0)) (each (pos 65536)) (each (pos 0))

-- its pulses by a rule
unfoldable pub by_rule : Rule → List ℤ
by_rule rule = (outcome rule oldest (replicate 160 (pos 1)) (replicate 160 (pos 0))).pulses
