-- Of the sections of a sheet: the cleaned sheet gets the same answer, pulses and seed; cleaning again changes nothing; two accepted sheets that
-- are equal in everything that counts have the same sections when cleaned. Assumes nothing.
use Prim.Native.Nat.{◌*◌}
use mathlib.Core.Path.{◌≡◌, refl, sym, ap, ◌∙◌}
use mathlib.Core.List.{List}
use lib.ListN.{length}
use lib.IntN.{ℤ}
use Rattle.silk.specs.declared.structs.Settings.{Settings}
use Rattle.settings_row.specs.Named.{settings_of}
use Rattle.limits.specs.Count.{nat_z}
use Rattle.refusal_rules.specs.Code.{code_of}
use Rattle.steps.specs.Among.{Rule}
use Rattle.steps.specs.Call.{Call}
use Rattle.steps.specs.Entry.{outcome}
use Rattle.sheet_form.specs.Sheets.{paths_of, with_default}
use Rattle.counts.specs.Conditions.{voiced, one_row, row_zero_only, no_lag}
use Rattle.counts.specs.Agree.{Agree}
use Rattle.counts.proofs.Refusals.{answer-same}
use Rattle.cleaning.specs.Cleaned.{row0_counts, row1_counts, pred_counts, ar_counts, ltp_counts, lag_counts, harm_counts, cleaned_settings, cleaned, SameNumbers}
use Rattle.cleaning.proofs.Theorems.{SameHeard, agree-cleaned, cleaned-heard, cleaned-twice, ar-long, numbers-same}
use Rattle.sheet_page.specs.Calls.{settings_in, samples_in, sheet_call, defaulted, frame_length, pulses_for, sheet_answer, sheet_outcome}
use Rattle.clean_page.specs.Sheets.{sections_of, cleaned_rows}

-- ---- the call of the cleaned sections
pub cleaned-call : (rows : List (List ℤ)) → sheet_call (cleaned_rows rows) ≡ cleaned (sheet_call rows)
unfolding cleaned_rows sections_of sheet_call cleaned settings_of
cleaned-call rows = refl

pub cleaned-samples : (rows : List (List ℤ)) → samples_in (cleaned_rows rows) ≡ samples_in rows
unfolding cleaned_rows sections_of
cleaned-samples rows = refl

-- the path count is not looked at
default-cleaned : (c : Call) → defaulted (cleaned c) ≡ cleaned (defaulted c)
unfolding defaulted cleaned cleaned_settings with_default pred_counts row0_counts row1_counts one_row row_zero_only ar_counts ltp_counts lag_counts harm_counts no_lag voiced
default-cleaned c = refl

cleaned-pulses : (rows : List (List ℤ)) → pulses_for (settings_in (cleaned_rows rows)) ≡ pulses_for (settings_in rows)
unfolding cleaned_rows sections_of sheet_call cleaned cleaned_settings settings_of pulses_for frame_length
cleaned-pulses rows = refl

-- ---- the cleaned sheet gets the same answer, pulses and seed
sheet-outcome-is : (rule : Rule) (rows : List (List ℤ))
    → sheet_outcome rule (cleaned_rows rows) ≡ outcome rule (cleaned (defaulted (sheet_call rows))) (samples_in rows) (pulses_for (settings_in rows))
unfolding sheet_outcome
sheet-outcome-is rule rows = rw (cleaned-call rows, cleaned-samples rows, cleaned-pulses rows, default-cleaned (sheet_call rows)) refl

pub sheet-heard : (rule : Rule) (rows : List (List ℤ)) → SameHeard (sheet_outcome rule rows) (sheet_outcome rule (cleaned_rows rows))
unfolding sheet_outcome
sheet-heard rule rows = rw (sheet-outcome-is rule rows) (cleaned-heard rule (defaulted (sheet_call rows)) (samples_in rows) (pulses_for (settings_in rows)))

pub sheet-answer : (rows : List (List ℤ)) → sheet_answer (cleaned_rows rows) ≡ sheet_answer rows
unfolding sheet_answer
sheet-answer rows =
    rw (cleaned-call rows, cleaned-samples rows, cleaned-pulses rows, default-cleaned (sheet_call rows))
    (let c = defaulted (sheet_call rows) in
    let x = samples_in rows in
    let p = pulses_for (settings_in rows) in
    sym (answer-same c (cleaned c) x x p p (agree-cleaned c x p p refl)))

-- ---- cleaning again changes nothing
rows_are : (rows : List (List ℤ)) → cleaned_rows rows ≡ sections_of (cleaned (sheet_call rows)) (samples_in rows)
unfolding cleaned_rows
rows_are rows = refl

sections-by : {c d : Call} {x y : List ℤ} → c ≡ d → x ≡ y → sections_of c x ≡ sections_of d y
sections-by e f = rw (e, f) refl

pub rows-twice : (rows : List (List ℤ)) → cleaned_rows (cleaned_rows rows) ≡ cleaned_rows rows
rows-twice rows =
    rows_are (cleaned_rows rows)
    ∙ sections-by (ap cleaned (cleaned-call rows) ∙ cleaned-twice (sheet_call rows)) (cleaned-samples rows)
    ∙ sym (rows_are rows)

-- ---- two sheets equal in everything that counts
sections-same : (c d : Call) (x y : List ℤ) → SameNumbers c x d y → sections_of c x ≡ sections_of d y
unfolding sections_of
sections-same c d x y h = rw (h.samples, h.pred, h.ltp, h.ar, h.harm, h.tilt, h.lf, h.gains, h.lags, h.settings) refl

-- AR has 24 slots for each subframe
ar-of : (rows : List (List ℤ)) → code_of (sheet_answer rows) ≡ 0 → length (sheet_call rows).AR_Q13 ≡ 24 * nat_z (sheet_call rows).settings.nb_subfr
unfolding sheet_answer defaulted with_default
ar-of rows e = ar-long (defaulted (sheet_call rows)) (samples_in rows) (pulses_for (settings_in rows)) e

-- two sheets, the first accepted, equal in everything that counts, with their path counts as they stand and whatever rows for pulses stand
-- beside them: the same ten sections after cleaning
pub sheets-same : (rows others : List (List ℤ)) (p q : List ℤ) → Agree (sheet_call rows) (samples_in rows) p (sheet_call others) (samples_in others) q
    → code_of (sheet_answer rows) ≡ 0 → cleaned_rows rows ≡ cleaned_rows others
sheets-same rows others p q h e =
    rows_are rows
    ∙ sections-same (cleaned (sheet_call rows)) (cleaned (sheet_call others)) (samples_in rows) (samples_in others)
    (numbers-same (sheet_call rows) (sheet_call others) (samples_in rows) (samples_in others) p q h (ar-of rows e))
    ∙ sym (rows_are others)

-- ---- .. and they get the same answer: the default for a path count takes nothing away
default-agrees : (c d : Call) (x y p q u v : List ℤ) → Agree c x p d y q → length u ≡ length v → Agree (defaulted c) x u (defaulted d) y v
unfolding defaulted with_default one_row row_zero_only no_lag voiced
default-agrees c d x y p q u v h e =
    record {
      subfr_length = h.subfr_length;
      nb_subfr = h.nb_subfr;
      predictLPCOrder = h.predictLPCOrder;
      shapingLPCOrder = h.shapingLPCOrder;
      nStatesDelayedDecision = ap paths_of h.nStatesDelayedDecision;
      signalType = h.signalType;
      quantOffsetType = h.quantOffsetType;
      NLSFInterpCoef_Q2 = h.NLSFInterpCoef_Q2;
      Seed = h.Seed;
      Lambda_Q10 = h.Lambda_Q10;
      samples = h.samples;
      lf = h.lf;
      gains = h.gains;
      pred_long = h.pred_long;
      pred0 = h.pred0;
      pred1 = h.pred1;
      ar_long = h.ar_long;
      ar = h.ar;
      ltp_long = h.ltp_long;
      ltp = h.ltp;
      lags_long = h.lags_long;
      lags = h.lags;
      last = h.last;
      harm_long = h.harm_long;
      harm = h.harm;
      warping = h.warping;
      tilt = h.tilt;
      scale = h.scale;
      lagPrev = h.lagPrev;
      pulses_long = e;
      state = h.state;
    }

pulses-same : (s t : Settings) → s.nb_subfr ≡ t.nb_subfr → s.subfr_length ≡ t.subfr_length → pulses_for s ≡ pulses_for t
unfolding pulses_for frame_length
pulses-same s t e f = rw (e, f) refl

pub answers-same : (rows others : List (List ℤ)) (p q : List ℤ) → Agree (sheet_call rows) (samples_in rows) p (sheet_call others) (samples_in others) q
    → sheet_answer rows ≡ sheet_answer others
unfolding sheet_answer sheet_call
answers-same rows others p q h =
    let c = sheet_call rows in
    let d = sheet_call others in
    let u = pulses_for (settings_in rows) in
    let v = pulses_for (settings_in others) in
    answer-same (defaulted c) (defaulted d) (samples_in rows) (samples_in others) u v
    (default-agrees c d (samples_in rows) (samples_in others) p q u v h (ap length (pulses-same (settings_in rows) (settings_in others) h.nb_subfr h.subfr_length)))
