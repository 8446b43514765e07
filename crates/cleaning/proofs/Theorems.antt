-- Of calls: a cleaned call agrees with the call in everything that counts and so gets the same answer, pulses and seed; cleaning again
-- changes nothing; two accepted calls that agree in everything that counts clean to the same numbers. Assumes nothing.
use Prim.Native.Nat.{ℕ, suc, ◌+◌, ◌-◌, ◌*◌, ◌<◌}
use native.Mathlib.Omega.{arith}
use mathlib.Core.Path.{◌≡◌, refl, sym, ap, ◌∙◌}
use mathlib.Core.Bool.{Bool, true, false, not, ◌&&◌}
use mathlib.Core.List.{List, [], ◌∷◌}
use mathlib.Core.Logic.{⊎_elim}
use lib.ListN.{length}
use lib.IntN.{ℤ, pos}
use lib.Dec.{eqb}
use borrow.Author.Tests.{eqb-true, eqb-false}
use Rattle.fixed.specs.Row.{word}
use Rattle.fixed.specs.Wrap.{wrap16}
use Rattle.silk.specs.declared.structs.Settings.{Settings}
use Rattle.silk.specs.declared.structs.NsqState.{NsqState}
use Rattle.limits.specs.Count.{nat_z, same_z}
use Rattle.limits.specs.Tests.{last_of}
use Rattle.refusal_rules.specs.Code.{code_of}
use Rattle.steps.specs.Among.{Rule}
use Rattle.steps.specs.Call.{Call, call_of, voiced_by}
use Rattle.steps.specs.Entry.{Outcome, answered, outcome}
use Rattle.steps.specs.Sizes.{sizes_of}
use Rattle.steps.proofs.Outcomes.{outcome-is, accepted-good, accepted-by, refused-by}
use Rattle.counts.specs.Agree.{Alike, LowAlike, StateAgree, Agree, SameOutcome}
use Rattle.counts.proofs.Theorems.{same_outcome}
use Rattle.counts.proofs.Refusals.{answer-same}
use Rattle.counts.specs.Conditions.{voiced, one_row, row_zero_only, no_lag}
use Rattle.counts.proofs.Conditions.{not-both}
use Rattle.cleaning.specs.Cleaned.{placed, kept_if, kept_at, low_row, row0_counts, row1_counts, pred_counts, ar_counts, ltp_counts, lag_counts, harm_counts, cleaned_settings, cleaned, SameNumbers}
use Rattle.cleaning.proofs.Places.{kept, kept_same, low_twice, kept-long, low-long, low-at, kept_there, kept-all, kept-row-twice, low-row-twice, kept-rows-same, low-rows-same}
use Rattle.cleaning.proofs.Keeps.{InRow0, InRow1, pred0-counts, pred1-counts, pred-why, ar-counts, ar-why, ltp-counts, ltp-why, lag-counts, last-counts, lag-why, harm-counts, harm-why}

-- ---- a cleaned call agrees
row-refl : (m : ℕ) (s : List ℤ) → Alike m s s
row-refl m s = record { long = refl; words = λ i h. refl }

-- a state agrees with itself
pub state-refl : (l : ℕ) (s : NsqState) → StateAgree l s s
state-refl l s =
    record {
      xq = row-refl _ s.xq;
      shp = row-refl _ s.sLTP_shp_Q14;
      lpc = row-refl _ s.sLPC_Q14;
      ar2 = refl;
      lf = refl;
      diff = refl;
      gain = refl;
    }

-- the last lag stays
last-kept : (s : Settings) (l : List ℤ) → last_of l ≡ last_of (kept_at (lag_counts s (length l)) l)
unfolding last_of kept_at placed
last-kept s [] = refl
last-kept s (z ∷ l) =
    kept_there (lag_counts s (length (z ∷ l))) (z ∷ l) (length (z ∷ l) - 1) (last-counts s (length (z ∷ l)) (length (z ∷ l) - 1) (omega arith))
    ∙ ap (λ (m : ℕ). word (kept_at (lag_counts s (length (z ∷ l))) (z ∷ l)) (m - 1)) (sym (kept-long (lag_counts s (length (z ∷ l))) (z ∷ l)))

low_alike : (l : List ℤ) → LowAlike l (low_row l)
low_alike l = record { long = sym (low-long l); words = λ i h. sym (ap wrap16 (low-at l i) ∙ low_twice (word l i)) }

-- for every call, accepted or not, and whatever the two rows for the pulses hold
pub agree-cleaned : (c : Call) (x p q : List ℤ) → length p ≡ length q → Agree c x p (cleaned c) x q
unfolding cleaned cleaned_settings
agree-cleaned c x p q e =
    let s = c.settings in
    let z = c.state.lagPrev in
    record {
      subfr_length = refl;
      nb_subfr = refl;
      predictLPCOrder = refl;
      shapingLPCOrder = refl;
      nStatesDelayedDecision = refl;
      signalType = refl;
      quantOffsetType = refl;
      NLSFInterpCoef_Q2 = refl;
      Seed = refl;
      Lambda_Q10 = refl;
      samples = refl;
      lf = refl;
      gains = refl;
      pred_long = sym (kept-long (pred_counts s) c.PredCoef_Q12);
      pred0 = λ v j h. kept_there (pred_counts s) c.PredCoef_Q12 j (pred0-counts s j v h);
      pred1 = λ v j h. kept_there (pred_counts s) c.PredCoef_Q12 (16 + j) (pred1-counts s j v h);
      ar_long = sym (kept-long (ar_counts s) c.AR_Q13);
      ar = λ k j h o. kept_there (ar_counts s) c.AR_Q13 (k * 24 + j) (ar-counts s k j o);
      ltp_long = sym (kept-long (ltp_counts s) c.LTPCoef_Q14);
      ltp = λ v. kept-all (ltp_counts s) c.LTPCoef_Q14 (λ j. ltp-counts s j v);
      lags_long = sym (kept-long (lag_counts s (length c.pitchL)) c.pitchL);
      lags = λ v. kept-all (lag_counts s (length c.pitchL)) c.pitchL (λ j. lag-counts s (length c.pitchL) j v);
      last = last-kept s c.pitchL;
      harm_long = sym (kept-long (harm_counts s z) c.HarmShapeGain_Q14);
      harm = λ v. kept-all (harm_counts s z) c.HarmShapeGain_Q14 (λ j. harm-counts s z j v);
      warping = sym (low_twice s.warping_Q16);
      tilt = low_alike c.Tilt_Q14;
      scale = λ v. sym (ap wrap16 (kept (voiced s) (wrap16 s.LTP_scale_Q14) v) ∙ low_twice s.LTP_scale_Q14);
      lagPrev = λ v. refl;
      pulses_long = e;
      state = state-refl _ c.state;
    }

-- ---- and so gets the same
-- what is the same of two outcomes: answer, pulses and seed
pub record SameHeard (o u : Outcome) : Type 0 where
  pub answer : o.answer ≡ u.answer
  pub pulses : o.pulses ≡ u.pulses
  pub seed : o.seed ≡ u.seed

refused-same : (rule : Rule) (c d : Call) (x p : List ℤ) → Agree c x p d x p → 0 < code_of (answered c x p) → SameHeard (outcome rule c x p) (outcome rule d x p)
refused-same rule c d x p h z =
    rw (outcome-is rule c x p, outcome-is rule d x p, ← answer-same c d x x p p h, refused-by rule c x p (answered c x p) z, refused-by rule d x p (answered c x p) z)
    (record { answer = refl; pulses = refl; seed = h.Seed })

accepted-same : (rule : Rule) (c d : Call) (x p : List ℤ) → Agree c x p d x p → code_of (answered c x p) ≡ 0 → SameHeard (outcome rule c x p) (outcome rule d x p)
accepted-same rule c d x p h z =
    let o = same_outcome rule c d x x p p h in
    let a : (outcome rule c x p).answer ≡ answered c x p =
    ap (λ (v : Outcome). v.answer) (outcome-is rule c x p ∙ accepted-by rule c x p (answered c x p) z) in
    let u = o.hands_out (ap code_of a ∙ z) in
    record { answer = o.answer; pulses = u.pulses; seed = u.seed }

same-heard : (rule : Rule) (c d : Call) (x p : List ℤ) → Agree c x p d x p → SameHeard (outcome rule c x p) (outcome rule d x p)
same-heard rule c d x p h = go (eqb (code_of (answered c x p)) 0) refl
  where
    go : (b : Bool) → eqb (code_of (answered c x p)) 0 ≡ b → SameHeard (outcome rule c x p) (outcome rule d x p)
    go true e = accepted-same rule c d x p h (eqb-true _ _ e)
    go false e = let n = eqb-false (code_of (answered c x p)) 0 e in refused-same rule c d x p h (omega arith)

-- every call, accepted or refused: the same answer, pulses and seed
pub cleaned-heard : (rule : Rule) (c : Call) (x p : List ℤ) → SameHeard (outcome rule c x p) (outcome rule (cleaned c) x p)
cleaned-heard rule c x p = same-heard rule c (cleaned c) x p (agree-cleaned c x p p refl)

-- .. and of an accepted one every word of the state that counts
pub cleaned-outcome : (rule : Rule) (c : Call) (x p : List ℤ) → SameOutcome (nat_z c.settings.subfr_length) (outcome rule c x p) (outcome rule (cleaned c) x p)
cleaned-outcome rule c x p = same_outcome rule c (cleaned c) x x p p (agree-cleaned c x p p refl)

-- ---- cleaning again changes nothing
scale-twice : (b : Bool) (z : ℤ) → kept_if b (wrap16 (kept_if b (wrap16 z))) ≡ kept_if b (wrap16 z)
unfolding kept_if
scale-twice true z = low_twice z
scale-twice false z = refl

settings-twice : (s : Settings) → cleaned_settings (cleaned_settings s) ≡ cleaned_settings s
unfolding cleaned_settings voiced
settings-twice s =
    rw (low_twice s.warping_Q16, scale-twice (voiced_by s.signalType) s.LTP_scale_Q14)

-- the tests don't read what was cleaned
pred-still : (s : Settings) → pred_counts (cleaned_settings s) ≡ pred_counts s
unfolding pred_counts row0_counts row1_counts one_row row_zero_only cleaned_settings
pred-still s = refl

ar-still : (s : Settings) → ar_counts (cleaned_settings s) ≡ ar_counts s
unfolding ar_counts cleaned_settings
ar-still s = refl

ltp-still : (s : Settings) → ltp_counts (cleaned_settings s) ≡ ltp_counts s
unfolding ltp_counts voiced cleaned_settings
ltp-still s = refl

lag-still : (s : Settings) → lag_counts (cleaned_settings s) ≡ lag_counts s
unfolding lag_counts voiced cleaned_settings
lag-still s = refl

harm-still : (s : Settings) → harm_counts (cleaned_settings s) ≡ harm_counts s
unfolding harm_counts no_lag voiced cleaned_settings
harm-still s = refl

-- two calls with one state, one row of LFs and one of gains, by their other parts
call_same : {s t : Settings} {st : NsqState} {a1 b1 a2 b2 a3 b3 a4 b4 a5 b5 lf gains a6 b6 : List ℤ}
    → s ≡ t → a1 ≡ b1 → a2 ≡ b2 → a3 ≡ b3 → a4 ≡ b4 → a5 ≡ b5 → a6 ≡ b6
    → call_of s st a1 a2 a3 a4 a5 lf gains a6 ≡ call_of t st b1 b2 b3 b4 b5 lf gains b6
call_same e e1 e2 e3 e4 e5 e6 = rw (e, e1, e2, e3, e4, e5, e6) refl

-- a row kept twice, by tests that are the same
again : (f g : ℕ → Bool) (l : List ℤ) → f ≡ g → kept_at f (kept_at g l) ≡ kept_at g l
again f g l e = ap (λ (h : ℕ → Bool). kept_at h (kept_at g l)) e ∙ kept-row-twice g l

lags-again : (s : Settings) (l : List ℤ)
    → kept_at (lag_counts (cleaned_settings s) (length (kept_at (lag_counts s (length l)) l))) (kept_at (lag_counts s (length l)) l) ≡ kept_at (lag_counts s (length l)) l
lags-again s l =
    again (lag_counts (cleaned_settings s) (length (kept_at (lag_counts s (length l)) l))) (lag_counts s (length l)) l
    (ap (lag_counts (cleaned_settings s)) (kept-long (lag_counts s (length l)) l) ∙ ap (λ (f : ℕ → ℕ → Bool). f (length l)) (lag-still s))

pub cleaned-twice : (c : Call) → cleaned (cleaned c) ≡ cleaned c
unfolding cleaned
cleaned-twice c =
    let s = c.settings in
    call_same (settings-twice s)
    (again _ (pred_counts s) c.PredCoef_Q12 (pred-still s))
    (again _ (ltp_counts s) c.LTPCoef_Q14 (ltp-still s))
    (again _ (ar_counts s) c.AR_Q13 (ar-still s))
    (again _ (harm_counts s c.state.lagPrev) c.HarmShapeGain_Q14 (ap (λ (f : ℤ → ℕ → Bool). f c.state.lagPrev) (harm-still s)))
    (low-row-twice c.Tilt_Q14)
    (lags-again s c.pitchL)

-- ---- two calls that agree clean to the same numbers
-- the settings, by what they read
settings-same : (s t : Settings)
    → s.subfr_length ≡ t.subfr_length → s.nb_subfr ≡ t.nb_subfr → s.predictLPCOrder ≡ t.predictLPCOrder → s.shapingLPCOrder ≡ t.shapingLPCOrder
    → s.nStatesDelayedDecision ≡ t.nStatesDelayedDecision → wrap16 s.warping_Q16 ≡ wrap16 t.warping_Q16 → s.signalType ≡ t.signalType
    → s.quantOffsetType ≡ t.quantOffsetType → s.NLSFInterpCoef_Q2 ≡ t.NLSFInterpCoef_Q2 → s.Seed ≡ t.Seed → s.Lambda_Q10 ≡ t.Lambda_Q10
    → (voiced s ≡ true → wrap16 s.LTP_scale_Q14 ≡ wrap16 t.LTP_scale_Q14)
    → cleaned_settings s ≡ cleaned_settings t
unfolding cleaned_settings voiced
settings-same s t e1 e2 e3 e4 e5 e6 e7 e8 e9 e10 e11 e12 =
    let e = kept_same (voiced_by s.signalType) (wrap16 s.LTP_scale_Q14) (wrap16 t.LTP_scale_Q14) e12 in
    rw (e, e1, e2, e3, e4, e5, e6, e7, e8, e9, e10, e11) refl

pred-tests : (s t : Settings) → s.nb_subfr ≡ t.nb_subfr → s.predictLPCOrder ≡ t.predictLPCOrder → s.NLSFInterpCoef_Q2 ≡ t.NLSFInterpCoef_Q2 → pred_counts s ≡ pred_counts t
unfolding pred_counts row0_counts row1_counts one_row row_zero_only
pred-tests s t e1 e2 e3 = rw (e1, e2, e3) refl

ar-tests : (s t : Settings) → s.shapingLPCOrder ≡ t.shapingLPCOrder → ar_counts s ≡ ar_counts t
unfolding ar_counts
ar-tests s t e = rw e refl

ltp-tests : (s t : Settings) → s.signalType ≡ t.signalType → ltp_counts s ≡ ltp_counts t
unfolding ltp_counts voiced
ltp-tests s t e = rw e refl

lag-tests : (s t : Settings) → s.signalType ≡ t.signalType → lag_counts s ≡ lag_counts t
unfolding lag_counts voiced
lag-tests s t e = rw e refl

-- lagPrev counts only in a frame that is not voiced
harm-tests : (s t : Settings) (y z : ℤ) → s.signalType ≡ t.signalType → ((voiced s ≡ true → ⊥) → y ≡ z) → harm_counts s y ≡ harm_counts t z
unfolding harm_counts no_lag voiced
harm-tests s t y z e h = go (voiced_by s.signalType) refl
  where
    go : (v : Bool) → voiced_by s.signalType ≡ v
        → ◌≡◌ {A = ℕ → Bool} (λ i. not (not (voiced_by s.signalType) && same_z y (pos 0))) (λ i. not (not (voiced_by t.signalType) && same_z z (pos 0)))
    go true d = rw (← e, d) refl
    go false d = rw (← e, h (not-both d)) refl

module _ (c d : Call) (x y p q : List ℤ) (h : Agree c x p d y q) where
  pred-clean : kept_at (pred_counts c.settings) c.PredCoef_Q12 ≡ kept_at (pred_counts d.settings) d.PredCoef_Q12
  pred-clean =
      kept-rows-same (pred_counts c.settings) c.PredCoef_Q12 d.PredCoef_Q12 h.pred_long
      (λ j l e.
      ⊎_elim (λ (r : InRow0 c.settings j). h.pred0 r.reached j r.below)
      (λ (r : InRow1 c.settings j).
      ap (word c.PredCoef_Q12) (sym r.from) ∙ h.pred1 r.reached (j - 16) r.below ∙ ap (word d.PredCoef_Q12) r.from)
      (pred-why c.settings j e))
      ∙ ap (λ (f : ℕ → Bool). kept_at f d.PredCoef_Q12) (pred-tests c.settings d.settings h.nb_subfr h.predictLPCOrder h.NLSFInterpCoef_Q2)

  ltp-clean : kept_at (ltp_counts c.settings) c.LTPCoef_Q14 ≡ kept_at (ltp_counts d.settings) d.LTPCoef_Q14
  ltp-clean =
      kept-rows-same (ltp_counts c.settings) c.LTPCoef_Q14 d.LTPCoef_Q14 h.ltp_long
      (λ j l e. ap (λ (r : List ℤ). word r j) (h.ltp (ltp-why c.settings j e)))
      ∙ ap (λ (f : ℕ → Bool). kept_at f d.LTPCoef_Q14) (ltp-tests c.settings d.settings h.signalType)

  harm-clean : kept_at (harm_counts c.settings c.state.lagPrev) c.HarmShapeGain_Q14 ≡ kept_at (harm_counts d.settings d.state.lagPrev) d.HarmShapeGain_Q14
  harm-clean =
      kept-rows-same (harm_counts c.settings c.state.lagPrev) c.HarmShapeGain_Q14 d.HarmShapeGain_Q14 h.harm_long
      (λ j l e. ap (λ (r : List ℤ). word r j) (h.harm (harm-why c.settings c.state.lagPrev j e)))
      ∙ ap (λ (f : ℕ → Bool). kept_at f d.HarmShapeGain_Q14) (harm-tests c.settings d.settings c.state.lagPrev d.state.lagPrev h.signalType h.lagPrev)

  last_word : (j : ℕ) → suc j ≡ length c.pitchL → word c.pitchL j ≡ word d.pitchL j
  unfolding last_of
  last_word j e =
      let i : j ≡ length c.pitchL - 1 = omega arith in
      let k : j ≡ length d.pitchL - 1 = omega (arith, h.lags_long) in
      ap (word c.pitchL) i ∙ h.last ∙ ap (word d.pitchL) (sym k)

  lags-clean : kept_at (lag_counts c.settings (length c.pitchL)) c.pitchL ≡ kept_at (lag_counts d.settings (length d.pitchL)) d.pitchL
  lags-clean =
      kept-rows-same (lag_counts c.settings (length c.pitchL)) c.pitchL d.pitchL h.lags_long
      (λ j l e.
      ⊎_elim (λ (v : voiced c.settings ≡ true). ap (λ (r : List ℤ). word r j) (h.lags v)) (λ (v : suc j ≡ length c.pitchL). last_word j v)
      (lag-why c.settings (length c.pitchL) j e))
      ∙ ap (λ (f : ℕ → ℕ → Bool). kept_at (f (length c.pitchL)) d.pitchL) (lag-tests c.settings d.settings h.signalType)
      ∙ ap (λ (m : ℕ). kept_at (lag_counts d.settings m) d.pitchL) h.lags_long

  -- each AR slot is one of a subframe
  module _ (long : length c.AR_Q13 ≡ 24 * nat_z c.settings.nb_subfr) where
    ar-clean : kept_at (ar_counts c.settings) c.AR_Q13 ≡ kept_at (ar_counts d.settings) d.AR_Q13
    ar-clean =
        kept-rows-same (ar_counts c.settings) c.AR_Q13 d.AR_Q13 h.ar_long
        (λ j l e.
        let r = ar-why c.settings (nat_z c.settings.nb_subfr) j (rw long at l) e in
        ap (word c.AR_Q13) (sym r.at) ∙ h.ar r.k r.j r.among r.below ∙ ap (word d.AR_Q13) r.at)
        ∙ ap (λ (f : ℕ → Bool). kept_at f d.AR_Q13) (ar-tests c.settings d.settings h.shapingLPCOrder)

    pub numbers-same : SameNumbers (cleaned c) x (cleaned d) y
    unfolding cleaned
    numbers-same =
        record {
          settings =
              settings-same c.settings d.settings h.subfr_length h.nb_subfr h.predictLPCOrder h.shapingLPCOrder h.nStatesDelayedDecision
              h.warping
              h.signalType
              h.quantOffsetType
              h.NLSFInterpCoef_Q2
              h.Seed
              h.Lambda_Q10
              h.scale;
          samples = h.samples;
          pred = pred-clean;
          ltp = ltp-clean;
          ar = ar-clean;
          harm = harm-clean;
          tilt = low-rows-same c.Tilt_Q14 d.Tilt_Q14 h.tilt.long h.tilt.words;
          lf = h.lf;
          gains = h.gains;
          lags = lags-clean;
        }

-- AR has 24 slots for each subframe
pub ar-long : (c : Call) (x p : List ℤ) → code_of (answered c x p) ≡ 0 → length c.AR_Q13 ≡ 24 * nat_z c.settings.nb_subfr
unfolding sizes_of
ar-long c x p e = (accepted-good c x p e).rows.ar

-- two accepted calls that agree in everything that counts; that one is accepted says that the other is
pub cleaned-same : (c d : Call) (x y p q : List ℤ) → Agree c x p d y q → code_of (answered c x p) ≡ 0 → SameNumbers (cleaned c) x (cleaned d) y
cleaned-same c d x y p q h e = numbers-same c d x y p q h (ar-long c x p e)
