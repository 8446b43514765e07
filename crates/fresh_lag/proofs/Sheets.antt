-- What `sheet` prints since a fresh state has a lag: for silence, for every voiced sheet and for every sheet whose harmonic gains are 0 what it printed;
-- and two calls in which the change is heard. Assumes nothing.
use Prim.Native.Nat.{ℕ}
use mathlib.Core.Path.{◌≡◌, refl, ap, ◌∙◌}
use mathlib.Core.Bool.{Bool, true, false}
use mathlib.Core.List.{List, []}
use lib.ListN.{get_or}
use lib.IntN.{ℤ, pos}
use Rattle.fixed.specs.Row.{word}
use Rattle.fixed.proofs.Iters.{cases}
use Rattle.silk.specs.State.{zeros}
use Rattle.silk.specs.declared.structs.Settings.{Settings}
use Rattle.settings_row.specs.Named.{settings_of}
use Rattle.limits.specs.Count.{same_z}
use Rattle.limits.proofs.Laws.{same_refl}
use Rattle.pages.specs.Decimal.{digits_up_to, digits, decimal}
use Rattle.refusal_rules.specs.Code.{code_of}
use Rattle.steps.specs.Among.{Rule, keeps_first}
use Rattle.steps.specs.Call.{voiced_by}
use Rattle.steps.specs.Entry.{Outcome, answered}
use Rattle.sheet_words.specs.Number.{separator, in_word, digit, run, skip, word as word_at, after_word, value, decimal as decimal_n, magnitude, signed, number_of, within, in_range, and_rest, number}
use Rattle.sheet_form.specs.Sections.{and_then, before, numbers, section, after, or_fault, ended, sections, layout, sheet, reading}
use Rattle.sheet_text.specs.Text.{answer_text, spaced, section_text, sheet_text}
use Rattle.sheet_form.specs.Sheets.{with_default}
use Rattle.sheet_page.specs.Calls.{settings_in, samples_in, sheet_call, defaulted, pulses_for, sheet_outcome}
use Rattle.sheet_page.specs.Page.{outcome_text, found_page, sheet_page}
use Rattle.counts.specs.Conditions.{voiced, no_lag}
use Rattle.counts.proofs.Conditions.{not-both}
use Rattle.cleaning.specs.Cleaned.{kept_if, kept_at, harm_counts, cleaned_settings, cleaned}
use Rattle.cleaning.proofs.Places.{kept-at}
use Rattle.clean_page.specs.Sheets.{sections_of}
use Rattle.fresh_lag.specs.Lags.{from, lagged, old_lag, first, first_before, Unchanged, Changed}
use Rattle.fresh_lag.specs.Frames.{outcome_before, text_before, cleaned_before, silence, silence_text, quiet_settings, quiet_call, one_path, one_path_samples, four_paths, four_paths_samples, pulses_of}
use Rattle.fresh_lag.proofs.Theorems.{voiced-unchanged, gainless-unchanged}
use Rattle.fresh_lag.proofs.Computed.{computed-frames}

-- ---- silence
-- printed, it is read as it was
silence-read : reading (sheet_text silence) ≡ sheet silence
unfolding silence zeros sheet_text section_text spaced decimal digits digits_up_to reading layout sections ended or_fault after section numbers before and_then number and_rest in_range within number_of signed magnitude decimal_n value after_word word_at skip run digit in_word separator
silence-read = refl

silence-text : (o : Outcome) → code_of o.answer ≡ 0 → o.seed ≡ pos 0 → o.pulses ≡ zeros 80 → outcome_text o ≡ silence_text
unfolding outcome_text answer_text silence_text
silence-text o a s p = rw (a, s, p) refl

-- `sheet` prints for it `answer 0`, `seed 0` and four lines of twenty `0`
pub silence-printed : sheet_page keeps_first (sheet_text silence) ≡ silence_text
unfolding sheet_page found_page
silence-printed = ap (found_page keeps_first) silence-read ∙ silence-text (sheet_outcome keeps_first silence) computed-frames.0 computed-frames.1 computed-frames.2

-- .. which is what it printed before
pub silence-printed-before : text_before keeps_first silence ≡ silence_text
unfolding text_before
silence-printed-before = silence-text (outcome_before keeps_first silence) computed-frames.3 computed-frames.4 computed-frames.5

-- ---- sheets whose harmonic gains are 0
sheet-first : (rule : Rule) (rows : List (List ℤ)) → Unchanged rule (defaulted (sheet_call rows)) (samples_in rows) (pulses_for (settings_in rows)) → found_page rule (sheet rows) ≡ text_before rule rows
unfolding found_page sheet_outcome text_before outcome_before outcome_text first from defaulted sheet_call
sheet-first rule rows u = rw (u.answer, u.seed, u.pulses) refl

-- `sheet` prints for each of them what it printed before
pub gainless-sheet : (rule : Rule) (rows : List (List ℤ)) → ((k : ℕ) → word (get_or rows 5 []) k ≡ pos 0) → found_page rule (sheet rows) ≡ text_before rule rows
unfolding defaulted sheet_call
gainless-sheet rule rows g = sheet-first rule rows (gainless-unchanged rule (defaulted (sheet_call rows)) (samples_in rows) (pulses_for (settings_in rows)) g)

-- .. and for each voiced sheet
pub voiced-sheet : (rule : Rule) (rows : List (List ℤ)) → voiced_by (settings_in rows).signalType ≡ true → found_page rule (sheet rows) ≡ text_before rule rows
unfolding defaulted sheet_call with_default
voiced-sheet rule rows v = sheet-first rule rows (voiced-unchanged rule (defaulted (sheet_call rows)) (samples_in rows) (pulses_for (settings_in rows)) v)

-- a frame that isn't voiced had its harmonic gains cleared
gains-cleared : (s : Settings) (row : List ℤ) (k : ℕ) → voiced_by s.signalType ≡ false → word (kept_at (harm_counts s old_lag) row) k ≡ pos 0
unfolding harm_counts no_lag voiced old_lag kept_if
gains-cleared s row k v = kept-at (harm_counts s old_lag) row k ∙ rw v refl

-- so for every sheet that `clean` made while a fresh state had no lag
pub cleaned-before-printed : (rule : Rule) (rows : List (List ℤ)) → found_page rule (sheet (cleaned_before rows)) ≡ text_before rule (cleaned_before rows)
unfolding cleaned_before sections_of settings_of cleaned cleaned_settings first_before lagged first from sheet_call
cleaned-before-printed rule rows =
    cases (voiced_by (settings_in rows).signalType) (λ v. voiced-sheet rule (cleaned_before rows) (type-kept v)) (λ v. gainless-sheet rule (cleaned_before rows) (cleared v))
  where
    type-kept : {b : Bool} → voiced_by (settings_in rows).signalType ≡ b → voiced_by (settings_in (cleaned_before rows)).signalType ≡ b
    type-kept v = v

    cleared : voiced_by (settings_in rows).signalType ≡ false → (k : ℕ) → word (get_or (cleaned_before rows) 5 []) k ≡ pos 0
    cleared v k = gains-cleared (settings_in rows) (get_or rows 5 []) k v

-- ---- frames in which the change is heard
-- numbers that are not the same
differ : (y z : ℤ) → same_z y z ≡ false → y ≡ z → ⊥
differ y z e q = not-both (ap (λ (w : ℤ). same_z y w) q ∙ e) (same_refl y)

-- a frame with a harmonic gain in all subframes, accepted, whose pulse j is another one
changed-at : (paths harm gain : ℤ) (x : List ℤ) (j : ℕ) → same_z harm (pos 0) ≡ false → code_of (answered (first (quiet_call paths harm gain)) x (zeros 160)) ≡ 0
    → same_z (word (pulses_of (first (quiet_call paths harm gain)) x) j) (word (pulses_of (first_before (quiet_call paths harm gain)) x) j) ≡ false
    → Changed keeps_first (quiet_call paths harm gain) x (zeros 160) 2 j
unfolding voiced_by quiet_call quiet_settings
changed-at paths harm gain x j g a e = record { quiet = refl; gain = differ harm (pos 0) g; accepted = a; pulse = differ _ _ e }

-- with one path pulse 99 is another one; sample 99 stands in subframe 2. (The pulses before it are the same: `computed-frames`.)
pub one-path-changed : Changed keeps_first one_path one_path_samples (zeros 160) 2 99
unfolding one_path
one-path-changed = changed-at _ _ _ one_path_samples 99 refl computed-frames.10 computed-frames.7

-- with four paths pulse 59 is another one, and 59 is 99 - D: so the bound of `early-unchanged` can't be moved by one
pub four-paths-changed : Changed keeps_first four_paths four_paths_samples (zeros 160) 2 59
unfolding four_paths
four-paths-changed = changed-at _ _ _ four_paths_samples 59 refl computed-frames.11 computed-frames.9
