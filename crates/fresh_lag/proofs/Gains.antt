-- From a fresh state the harmonic gains always count: two calls that agree have the same ones, cleaning keeps them, and so nothing that is cleared in
-- a first frame would count if the frame stood later in a note. Assumes nothing.
use Prim.Native.Nat.{ℕ}
use mathlib.Core.Path.{◌≡◌, refl, sym, ap, ◌∙◌}
use mathlib.Core.Bool.{Bool, true, false, not, ◌&&◌}
use mathlib.Core.List.{List, []}
use lib.ListN.{get_or}
use lib.IntN.{ℤ}
use Rattle.silk.specs.State.{fresh_lag, fresh_state}
use Rattle.silk.specs.declared.structs.Settings.{Settings}
use Rattle.silk.specs.declared.structs.NsqState.{NsqState}
use Rattle.limits.specs.Count.{nat_z}
use Rattle.steps.specs.Among.{Rule}
use Rattle.steps.specs.Call.{Call}
use Rattle.steps.specs.Entry.{outcome}
use Rattle.counts.specs.Conditions.{voiced, no_lag}
use Rattle.counts.specs.Agree.{Agree, SameOutcome}
use Rattle.counts.proofs.Conditions.{not-both}
use Rattle.counts.proofs.Theorems.{same_outcome}
use Rattle.cleaning.specs.Cleaned.{harm_counts, cleaned}
use Rattle.cleaning.proofs.Places.{kept-all}
use Rattle.cleaning.proofs.Theorems.{state-refl, agree-cleaned}
use Rattle.sheet_page.specs.Calls.{sheet_call}
use Rattle.clean_page.specs.Sheets.{sections_of, cleaned_rows}
use Rattle.fresh_lag.specs.Lags.{from, first}

-- no settings make a fresh state one without a lag
pub has-lag : (s : Settings) → no_lag s fresh_lag ≡ false
unfolding no_lag fresh_lag
has-lag s = go (voiced s)
  where
    go : (b : Bool) → (not b && false) ≡ false
    go true = refl
    go false = refl

-- ---- so the harmonic gains count
-- two calls that agree in what counts, the first of them from a fresh state, have the same ones
pub gains-agree : (c d : Call) (x y p q : List ℤ) → c.state.lagPrev ≡ fresh_lag → Agree c x p d y q → c.HarmShapeGain_Q14 ≡ d.HarmShapeGain_Q14
gains-agree c d x y p q e h = h.harm (not-both (ap (no_lag c.settings) e ∙ has-lag c.settings))

-- each place of the row counts
pub gains-count : (s : Settings) (i : ℕ) → harm_counts s fresh_lag i ≡ true
unfolding harm_counts
gains-count s i = rw (has-lag s) refl

-- ---- and cleaning keeps them
-- .. of a call
pub gains-kept : (c : Call) → c.state.lagPrev ≡ fresh_lag → (cleaned c).HarmShapeGain_Q14 ≡ c.HarmShapeGain_Q14
unfolding cleaned
gains-kept c e =
    sym (kept-all (harm_counts c.settings c.state.lagPrev) c.HarmShapeGain_Q14 (λ j. ap (λ (l : ℤ). harm_counts c.settings l j) e ∙ gains-count c.settings j))

-- .. of a sheet: section 6 has the numbers that were read
pub section-6-kept : (rows : List (List ℤ)) → get_or (cleaned_rows rows) 5 [] ≡ get_or rows 5 []
unfolding cleaned_rows sections_of sheet_call fresh_state
section-6-kept rows = gains-kept (sheet_call rows) refl

-- ---- so nothing that is cleared in a first frame counts, whatever state the frame starts from
-- from each state the cleaned first frame agrees with the frame
pub agree-anywhere : (z : NsqState) (c : Call) (x p : List ℤ) → Agree (from z c) x p (from z (cleaned (first c))) x p
unfolding first from fresh_state
agree-anywhere z c x p =
    let h = agree-cleaned (first c) x p p refl in
    record {
      subfr_length = h.subfr_length;
      nb_subfr = h.nb_subfr;
      predictLPCOrder = h.predictLPCOrder;
      shapingLPCOrder = h.shapingLPCOrder;
      nStatesDelayedDecision = h.nStatesDelayedDecision;
      signalType = h.signalType;
      quantOffsetType = h.quantOffsetType;
      NLSFInterpCoef_Q2 = h.NLSFInterpCoef_Q2;
      Seed = h.Seed;
      Lambda_Q10 = h.Lambda_Q10;
      samples = h.samples;
      lf = h.lf;
      gains = h.gains;
      pred_long = h.pred_long;
      pred0 = h.pred0;
      pred1 = h.pred1;
      ar_long = h.ar_long;
      ar = h.ar;
      ltp_long = h.ltp_long;
      ltp = h.ltp;
      lags_long = h.lags_long;
      lags = h.lags;
      last = h.last;
      harm_long = h.harm_long;
      harm = λ v. sym (gains-kept (first c) refl);
      warping = h.warping;
      tilt = h.tilt;
      scale = h.scale;
      lagPrev = λ v. refl;
      pulses_long = refl;
      state = state-refl (nat_z c.settings.subfr_length) z;
    }

-- so it may stand anywhere in a note: it gets the same number, and where that is 0 the same pulses, seed and counting state
pub cleaned-anywhere : (rule : Rule) (z : NsqState) (c : Call) (x p : List ℤ)
    → SameOutcome (nat_z c.settings.subfr_length) (outcome rule (from z c) x p) (outcome rule (from z (cleaned (first c))) x p)
unfolding from
cleaned-anywhere rule z c x p = same_outcome rule (from z c) (from z (cleaned (first c))) x x p p (agree-anywhere z c x p)
