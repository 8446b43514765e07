-- A lag that isn't heard, in a frame: two calls that differ only in lagPrev, in a frame that isn't voiced and with one decision delay, come to the
-- same as long as the harmonic terms are 0 under both lags. Assumes nothing.
use Prim.Native.Nat.{ℕ, suc, ◌+◌, ◌-◌, ◌*◌, ◌<◌, ◌≤◌}
use native.Mathlib.Omega.{arith}
use native.Mathlib.Nat.{suc-mul}
use mathlib.Core.Path.{◌≡◌, refl, sym, ap, ◌∙◌}
use mathlib.Core.Bool.{false}
use mathlib.Core.List.{List}
use lib.IntN.{ℤ, pos}
use lib.Dec.{eqb}
use Rattle.fixed.specs.Iter.{iter}
use Rattle.fixed.specs.Row.{word}
use Rattle.fixed.proofs.Iters.{iter-rel, either-alike}
use Rattle.word_steps.specs.Harmonic.{packed_gain}
use Rattle.limits.specs.Count.{nat_z}
use Rattle.path.specs.declared.structs.Fix.{Fix}
use Rattle.path.specs.Data.{Rows}
use Rattle.steps.specs.Among.{Rule}
use Rattle.steps.specs.declared.structs.Given.{Given}
use Rattle.steps.specs.Call.{Call, voiced_by, given_by, given_of, length_of, count_of, delay_of, lag_by, twice_by, second_by, rewhites_by, since_by, row_by, fix_by, halves_by, rows_by, white_by}
use Rattle.steps.specs.Flush.{best_of, fit_last}
use Rattle.steps.specs.Frame.{Framed, start, step, turn_by, Done, left_by, ended_by, frame}
use Rattle.counts.proofs.Rows.{Below, below-refl}
use Rattle.counts.proofs.Flush.{flush-past}
use Rattle.counts.proofs.Prefix.{Pre, pre-step, frame_out}
use Rattle.counts.proofs.Frame.{turn_is, ended_is}
use Rattle.fresh_lag.specs.Lags.{from, lagged}
use Rattle.fresh_lag.proofs.Lagged.{lag_given, frame_by, frame_at}
use Rattle.fresh_lag.proofs.Unheard.{quiet, Kept, Unheard, Along, frame_shaped, step-along}
use Rattle.fresh_lag.proofs.NoTerm.{AnyRow, any-kept, gainless-unheard, Silent, silent-kept, silent-unheard}

-- ---- a frame that isn't voiced
-- what is given, with the lag d
abbrev hushed : Given → ℕ → Given
hushed g d = lag_given false g d

-- the scalars of subframe k
fix-hushed : (g : Given) (d e : ℕ) (lags lf gains : List ℤ) (k : ℕ) → fix_by (hushed g d) lags lf gains k ≡ quiet (fix_by (hushed g e) lags lf gains k) d
unfolding fix_by lag_by since_by twice_by
fix-hushed g d e lags lf gains k = refl

-- its rows
rows-hushed : (g : Given) (d : ℕ) (pred ltp ar tilt harm : List ℤ) (k : ℕ) → rows_by (hushed g d) pred ltp ar tilt harm k ≡ rows_by g pred ltp ar tilt harm k
unfolding rows_by row_by halves_by
rows-hushed g d pred ltp ar tilt harm k = refl

-- no flush and no rewhitening
second-hushed : (g : Given) (d k : ℕ) → second_by (hushed g d) k ≡ false
unfolding second_by twice_by
second-hushed g d k = refl

rewhites-hushed : (g : Given) (d k : ℕ) → rewhites_by (hushed g d) k ≡ false
unfolding rewhites_by second_by twice_by
rewhites-hushed g d k = either-alike (eqb k 0) false

-- the end
ended-hushed : (g : Given) (d e : ℕ) (last lag : ℤ) (words : List ℤ) (t : Framed) → ended_by (hushed g d) last lag words t ≡ ended_by (hushed g e) last lag words t
unfolding ended_by left_by since_by rewhites_by second_by twice_by
ended-hushed g d e last lag words t = refl

-- the pulses of a frame that is done
abbrev done_out : Done → List ℤ
done_out o = o.pulses

-- ---- all subframes with the lags d and e, whose terms are 0 before sample t
module _ (Q : List ℤ → Type 0) (rule : Rule) (g : Given) (c : Call) (x : List ℤ) (d e t : ℕ) (keeps : Kept g.subfr_length Q)
    (zero_first : (k : ℕ) → k < g.nb_subfr → Unheard Q g.subfr_length (k * g.subfr_length) (packed_gain (word c.HarmShapeGain_Q14 k)) d t)
    (zero_second : (k : ℕ) → k < g.nb_subfr → Unheard Q g.subfr_length (k * g.subfr_length) (packed_gain (word c.HarmShapeGain_Q14 k)) e t) where
  -- subframe k with the lag h
  abbrev turn_with : ℕ → ℕ → Framed → Framed
  turn_with h =
      turn_by rule (hushed g h) x c.PredCoef_Q12 c.LTPCoef_Q14 c.AR_Q13 c.Tilt_Q14 c.HarmShapeGain_Q14 c.LF_shp_Q14 c.Gains_Q16 c.pitchL

  -- its rows, and its scalars
  abbrev rows_with : ℕ → Rows
  rows_with k = rows_by g c.PredCoef_Q12 c.LTPCoef_Q14 c.AR_Q13 c.Tilt_Q14 c.HarmShapeGain_Q14 k

  abbrev fix_with : ℕ → Fix
  fix_with k = fix_by (hushed g d) c.pitchL c.LF_shp_Q14 c.Gains_Q16 k

  turn-hushed : (h k : ℕ) (r : Framed)
      → turn_with h k r ≡ step rule (quiet (fix_with k) h) (rows_with k) x false false (word c.Gains_Q16 1) (white_by (hushed g h) (word c.Gains_Q16 k) k) r
  turn-hushed h k r =
      turn_is rule (hushed g h) x c.PredCoef_Q12 c.LTPCoef_Q14 c.AR_Q13 c.Tilt_Q14 c.HarmShapeGain_Q14 c.LF_shp_Q14 c.Gains_Q16 c.pitchL k r
      ∙ rw (
        fix-hushed g h d c.pitchL c.LF_shp_Q14 c.Gains_Q16 k,
        rows-hushed g h c.PredCoef_Q12 c.LTPCoef_Q14 c.AR_Q13 c.Tilt_Q14 c.HarmShapeGain_Q14 k,
        second-hushed g h k,
        rewhites-hushed g h k,
      ) refl

  step_by : (k : ℕ) → k < g.nb_subfr → (inv inv' : ℤ) (r s : Framed) → Along Q frame_out frame_shaped (t - g.delay) t (k * g.subfr_length) r s
      → Along Q frame_out frame_shaped (t - g.delay) t (k * g.subfr_length + g.subfr_length)
      (step rule (quiet (fix_with k) d) (rows_with k) x false false (word c.Gains_Q16 1) inv r)
      (step rule (quiet (fix_with k) e) (rows_with k) x false false (word c.Gains_Q16 1) inv' s)
  unfolding fix_by rows_by halves_by
  step_by k b inv inv' r s a = step-along Q rule (fix_with k) (rows_with k) x d e t keeps (zero_first k b) (zero_second k b) (word c.Gains_Q16 1) inv inv' r s a

  turn_along : (k : ℕ) → k < g.nb_subfr → (r s : Framed) → Along Q frame_out frame_shaped (t - g.delay) t (k * g.subfr_length) r s
      → Along Q frame_out frame_shaped (t - g.delay) t (suc k * g.subfr_length) (turn_with d k r) (turn_with e k s)
  turn_along k b r s a = rw (suc-mul k g.subfr_length, turn-hushed d k r, turn-hushed e k s) (step_by k b _ _ r s a)

  run_along : (z : Framed) → Q z.run.sLTP_shp_Q14 → Along Q frame_out frame_shaped (t - g.delay) t (g.nb_subfr * g.subfr_length)
      (iter (turn_with d) g.nb_subfr z) (iter (turn_with e) g.nb_subfr z)
  run_along z q =
      iter-rel (λ k. Along Q frame_out frame_shaped (t - g.delay) t (k * g.subfr_length)) (turn_with d) (turn_with e) g.nb_subfr
      (λ k b r s. turn_along k b r s) z z (record { pre = record { same = λ h. refl; out = below-refl _ _ }; kept = q })

  -- the end: the last flush writes from nL - D on
  ended-pre : (last lag : ℤ) (words : List ℤ) (r s : Framed) → Pre frame_out (t - g.delay) t (g.nb_subfr * g.subfr_length) r s
      → Pre done_out (t - g.delay) t (g.nb_subfr * g.subfr_length) (ended_by (hushed g d) last lag words r) (ended_by (hushed g e) last lag words s)
  ended-pre last lag words r s h =
      pre-step frame_out done_out (ended_by (hushed g d) last lag words) (ended_by (hushed g e) last lag words) (omega arith)
      (λ z q. ended-hushed g d e last lag words r ∙ ap (ended_by (hushed g e) last lag words) q)
      (λ z a.
      rw (ended_is (hushed g d) last lag words r, ended_is (hushed g e) last lag words s)
      (flush-past g.subfr_length g.delay (fit_last last) (g.nb_subfr * g.subfr_length) (best_of r.run.core.ps.owns g.nStates) (best_of s.run.core.ps.owns g.nStates) r.run s.run
      (omega arith) a)) h

  frame-by : (z : Framed) → Q z.run.sLTP_shp_Q14
      → Pre done_out (t - g.delay) t (g.nb_subfr * g.subfr_length) (frame_by rule (hushed g d) c x z) (frame_by rule (hushed g e) c x z)
  frame-by z q =
      ended-pre (word c.Gains_Q16 (g.nb_subfr - 1)) (word c.pitchL (g.nb_subfr - 1)) c.state.sLPC_Q14 _ _ (run_along z q).pre

-- ---- two calls that differ only in lagPrev, in a frame that isn't voiced and with one decision delay
module _ (Q : List ℤ → Type 0) (rule : Rule) (c : Call) (a b : ℤ) (x p : List ℤ) (t : ℕ) (unvoiced : voiced_by c.settings.signalType ≡ false)
    (delays : delay_of (lagged c a) ≡ delay_of (lagged c b)) (keeps : Kept (length_of c) Q) (holds : Q c.state.sLTP_shp_Q14)
    (zero_first : (k : ℕ) → k < count_of c → Unheard Q (length_of c) (k * length_of c) (packed_gain (word c.HarmShapeGain_Q14 k)) (nat_z a) t)
    (zero_second : (k : ℕ) → k < count_of c → Unheard Q (length_of c) (k * length_of c) (packed_gain (word c.HarmShapeGain_Q14 k)) (nat_z b) t) where
  start-kept : Q (start c p).run.sLTP_shp_Q14
  unfolding start
  start-kept = holds

  frame-pre : Pre done_out (t - delay_of (lagged c a)) t (count_of c * length_of c)
      (frame_by rule (hushed (given_of (lagged c a)) (nat_z a)) c x (start c p)) (frame_by rule (hushed (given_of (lagged c a)) (nat_z b)) c x (start c p))
  unfolding given_by lagged from
  frame-pre = frame-by Q rule (given_of (lagged c a)) c x (nat_z a) (nat_z b) t keeps zero_first zero_second (start c p) start-kept

  -- where the terms are 0 in all of the frame, both calls come to the same
  whole : count_of c * length_of c ≤ t → frame rule (lagged c a) x p ≡ frame rule (lagged c b) x p
  whole h = frame_at rule false c a a x p unvoiced refl ∙ frame-pre.same h ∙ sym (frame_at rule false c a b x p unvoiced delays)

  -- where they are 0 before sample t, the pulses below t less the delay are the same
  early : Below (t - delay_of (lagged c a)) (frame rule (lagged c a) x p).pulses (frame rule (lagged c b) x p).pulses
  early = rw (frame_at rule false c a a x p unvoiced refl, frame_at rule false c a b x p unvoiced delays) frame-pre.out

-- ---- two cases
-- where each harmonic gain is 0, no lag is heard: both calls come to the same
pub gainless-frame : (rule : Rule) (c : Call) (a b : ℤ) (x p : List ℤ) → voiced_by c.settings.signalType ≡ false → delay_of (lagged c a) ≡ delay_of (lagged c b)
    → ((k : ℕ) → word c.HarmShapeGain_Q14 k ≡ pos 0) → frame rule (lagged c a) x p ≡ frame rule (lagged c b) x p
gainless-frame rule c a b x p unvoiced delays gains =
    whole AnyRow rule c a b x p (count_of c * length_of c) unvoiced delays (any-kept (length_of c)) refl
    (λ k h. gainless-unheard (word c.HarmShapeGain_Q14 k) (length_of c) (k * length_of c) (nat_z a) (count_of c * length_of c) (gains k))
    (λ k h. gainless-unheard (word c.HarmShapeGain_Q14 k) (length_of c) (k * length_of c) (nat_z b) (count_of c * length_of c) (gains k))
    (omega arith)

-- where the state's first 4L shaping words are 0, a lag above t is not heard before sample t: the pulses below t less the delay are the same, and where
-- the frame has no more than t samples, all that both calls come to
module _ (rule : Rule) (c : Call) (a b : ℤ) (x p : List ℤ) (t : ℕ) (unvoiced : voiced_by c.settings.signalType ≡ false)
    (delays : delay_of (lagged c a) ≡ delay_of (lagged c b)) (silent : (j : ℕ) → j < 4 * length_of c → word c.state.sLTP_shp_Q14 j ≡ pos 0)
    (below_first : 0 < nat_z a → t < nat_z a) (below_second : 0 < nat_z b → t < nat_z b) where
  unheard : (d : ℕ) → (0 < d → t < d) → (k : ℕ) → k < count_of c → Unheard (Silent (length_of c)) (length_of c) (k * length_of c) (packed_gain (word c.HarmShapeGain_Q14 k)) d t
  unheard d e k h = silent-unheard (packed_gain (word c.HarmShapeGain_Q14 k)) (length_of c) (k * length_of c) d t e

  -- the whole frame
  pub silent-frame : count_of c * length_of c ≤ t → frame rule (lagged c a) x p ≡ frame rule (lagged c b) x p
  silent-frame h =
      whole (Silent (length_of c)) rule c a b x p t unvoiced delays (silent-kept (length_of c)) silent (unheard (nat_z a) below_first) (unheard (nat_z b) below_second) h

  -- its first pulses
  pub silent-early : Below (t - delay_of (lagged c a)) (frame rule (lagged c a) x p).pulses (frame rule (lagged c b) x p).pulses
  silent-early =
      early (Silent (length_of c)) rule c a b x p t unvoiced delays (silent-kept (length_of c)) silent (unheard (nat_z a) below_first) (unheard (nat_z b) below_second)
