-- Each kind of input by computation, so that no theorem is empty: a faulty and a refused one with their texts, and two accepted sheets with their
-- lists of changes. Assumes nothing.
use Prim.Native.Nat.{ℕ, zero, suc}
use mathlib.Core.Path.{◌≡◌, refl}
use mathlib.Core.List.{List, [], ◌∷◌, ◌++◌}
use lib.ListN.{replicate}
use lib.IntN.{ℤ, pos, negsuc}
use Rattle.fixed.specs.Wrap.{wrap16, wrap_to}
use Rattle.silk.specs.State.{zeros, fresh_lag, fresh_state}
use Rattle.settings_row.specs.Named.{settings_of}
use Rattle.pages.specs.Decimal.{digits_up_to, digits, decimal}
use Rattle.limits.specs.Tests.{outside, length_allowed, count_allowed, order_for, odd_z, lengths_refused, orders_refused, paths_refused, kinds_refused, gain_refused, some_gain, gains_refused, lag_refused, quiet_lag_refused, some_lag, last_of, lags_refused}
use Rattle.refusal_rules.specs.Code.{code_of}
use Rattle.refusal_rules.specs.Table.{each_refused, rows_refused, table, answer_of}
use Rattle.steps.specs.Call.{voiced_by}
use Rattle.steps.specs.Entry.{answered}
use Rattle.steps.specs.Sizes.{sizes_of}
use Rattle.sheet_words.specs.Number.{separator, in_word, digit, run, skip, word, after_word, value, decimal as decimal_n, magnitude, signed, number_of, within, in_range, and_rest, number}
use Rattle.sheet_form.specs.Sections.{and_then, before, numbers, section, after, or_fault, ended, sections, layout, sheet, reading}
use Rattle.sheet_form.specs.Sheets.{default_paths, paths_of, with_default}
use Rattle.sheet_text.specs.Text.{line_of, fault_text, spaced, section_text, sheet_text}
use Rattle.counts.specs.Conditions.{voiced, one_row, row_zero_only, no_lag}
use Rattle.cleaning.specs.Cleaned.{placed, kept_if, kept_at, low_row, row0_counts, row1_counts, pred_counts, ar_counts, ltp_counts, lag_counts, harm_counts, cleaned_settings, cleaned}
use Rattle.cleaning.specs.Changes.{Change, change_of, listed, changes_in, changes_from, changes}
use Rattle.sheet_page.specs.Calls.{sheet_call, defaulted, frame_length, pulses_for, sheet_answer}
use Rattle.clean_page.specs.Sheets.{sections_of, cleaned_rows}
use Rattle.clean_page.specs.Text.{refused_text, numbered_text, found_text, clean_text}

-- ---- nothing at all: `sheet fault 1`
pub faulty : clean_text [] ≡ 115 ∷ 104 ∷ 101 ∷ 101 ∷ 116 ∷ 32 ∷ 102 ∷ 97 ∷ 117 ∷ 108 ∷ 116 ∷ 32 ∷ 49 ∷ 10 ∷ []
unfolding clean_text found_text reading layout sections or_fault section and_then number and_rest in_range within number_of signed magnitude decimal_n value after_word word skip run digit in_word separator fault_text line_of decimal digits digits_up_to
faulty = refl

-- ---- twelve settings of 0 and nine empty sections, `12 0 0 0 0 0 0 0 0 0 0 0 0 0 0 0 0 0 0 0 0 0`: refused for L and n, `answer 1` and those bytes
pub zero_sheet : List ℕ
zero_sheet = 49 ∷ 50 ∷ 32 ∷ 48 ∷ 32 ∷ 48 ∷ 32 ∷ 48 ∷ 32 ∷ 48 ∷ 32 ∷ 48 ∷ 32 ∷ 48 ∷ 32 ∷ 48 ∷ 32 ∷ 48 ∷ 32 ∷ 48 ∷ 32 ∷ 48 ∷ 32 ∷ 48 ∷ 32 ∷ 48 ∷ 32 ∷ 48 ∷ 32 ∷ 48 ∷ 32 ∷ 48 ∷ 32 ∷ 48 ∷ 32 ∷ 48 ∷ 32 ∷ 48 ∷ 32 ∷ 48 ∷ 32 ∷ 48 ∷ 32 ∷ 48 ∷ []

pub refused : clean_text zero_sheet ≡ (97 ∷ 110 ∷ 115 ∷ 119 ∷ 101 ∷ 114 ∷ 32 ∷ 49 ∷ 10 ∷ []) ++ zero_sheet
unfolding zero_sheet clean_text found_text numbered_text refused_text reading layout sections ended or_fault after section numbers before and_then number and_rest in_range within number_of signed magnitude decimal_n value after_word word skip run digit in_word separator sheet_answer answered sizes_of defaulted pulses_for frame_length sheet_call settings_of with_default paths_of default_paths fresh_state fresh_lag zeros answer_of table lengths_refused length_allowed count_allowed line_of decimal digits digits_up_to
refused = refl

-- ---- two accepted sheets
-- n times 1
pub ones : ℕ → List ℤ
ones n = replicate n (pos 1)

-- of a type: L 40, n 2, orders 10 and 22, 0 paths, interpolation 4; all else 1, but warping, LTP scale and a tilt beyond 16 bits, and the lags
pub dirty : ℤ → List (List ℤ)
dirty type =
    (pos 40 ∷ pos 2 ∷ pos 10 ∷ pos 22 ∷ pos 0 ∷ pos 32768 ∷ type ∷ pos 0 ∷ pos 4 ∷ pos 0 ∷ pos 0 ∷ pos 65535 ∷ [])
    ∷ ones 80
    ∷ ones 32
    ∷ ones 10
    ∷ ones 48
    ∷ ones 2
    ∷ (negsuc 32768 ∷ pos 5 ∷ [])
    ∷ ones 2
    ∷ ones 2
    ∷ (pos 20 ∷ pos 16 ∷ [])
    ∷ []

-- both are accepted, with path count 0
pub accepted-both : (code_of (sheet_answer (dirty (pos 2))) ≡ 0) × (code_of (sheet_answer (dirty (pos 0))) ≡ 0)
unfolding sheet_answer answered sizes_of defaulted pulses_for frame_length sheet_call settings_of with_default paths_of default_paths fresh_state fresh_lag zeros answer_of table rows_refused each_refused outside length_allowed count_allowed order_for odd_z lengths_refused orders_refused paths_refused kinds_refused gain_refused some_gain gains_refused lag_refused quiet_lag_refused some_lag last_of lags_refused dirty ones
accepted-both = (refl, refl)

-- .. and printed, the voiced one is read as it was
pub dirty-read : reading (sheet_text (dirty (pos 2))) ≡ sheet (dirty (pos 2))
unfolding sheet_text section_text spaced decimal digits digits_up_to reading layout sections ended or_fault after section numbers before and_then number and_rest in_range within number_of signed magnitude decimal_n value after_word word skip run digit in_word separator dirty ones
dirty-read = refl

-- n places of section s, from place p on, changed from 1 to 0
pub gone : ℕ → ℕ → ℕ → List Change
gone s p zero = []
gone s p (suc n) = change_of s p (pos 1) (pos 0) ∷ gone s (suc p) n

-- voiced: warping and LTP scale in their low 16 bits, PredCoef's row 0 and six slots of row 1, two AR slots in each subframe, a tilt
pub voiced-changes :
    changes (dirty (pos 2)) (cleaned_rows (dirty (pos 2)))
    ≡ (change_of 1 6 (pos 32768) (negsuc 32767) ∷ change_of 1 12 (pos 65535) (negsuc 0) ∷ [])
    ++ gone 3 1 16
    ++ gone 3 27 6
    ++ gone 5 23 2
    ++ gone 5 47 2
    ++ (change_of 7 1 (negsuc 32768) (pos 32767) ∷ [])
unfolding changes changes_from changes_in listed cleaned_rows sections_of sheet_call cleaned cleaned_settings kept_at kept_if placed low_row voiced one_row row_zero_only no_lag voiced_by pred_counts row0_counts row1_counts ar_counts ltp_counts lag_counts harm_counts settings_of wrap16 wrap_to fresh_state fresh_lag dirty gone ones
voiced-changes = refl

-- not voiced: all of the LTP scale, LTPCoef and the first lag too; not the harmonic gains, since a fresh state has a lag
pub quiet-changes :
    changes (dirty (pos 0)) (cleaned_rows (dirty (pos 0)))
    ≡ (change_of 1 6 (pos 32768) (negsuc 32767) ∷ change_of 1 12 (pos 65535) (pos 0) ∷ [])
    ++ gone 3 1 16
    ++ gone 3 27 6
    ++ gone 4 1 10
    ++ gone 5 23 2
    ++ gone 5 47 2
    ++ (change_of 7 1 (negsuc 32768) (pos 32767) ∷ change_of 10 1 (pos 20) (pos 0) ∷ [])
unfolding changes changes_from changes_in listed cleaned_rows sections_of sheet_call cleaned cleaned_settings kept_at kept_if placed low_row voiced one_row row_zero_only no_lag voiced_by pred_counts row0_counts row1_counts ar_counts ltp_counts lag_counts harm_counts settings_of wrap16 wrap_to fresh_state fresh_lag dirty gone ones
quiet-changes = refl
