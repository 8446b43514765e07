-- The definition computed on small inputs. Assumes nothing.
use mathlib.Core.Path.{◌≡◌, refl}
use mathlib.Core.List.{[], ◌∷◌}
use Rattle.silk.specs.State.{zeros, fresh_state}
use Rattle.settings_row.specs.Named.{settings_of}
use Rattle.limits.specs.Tests.{length_allowed, count_allowed, lengths_refused}
use Rattle.refusal_rules.specs.Table.{table, answer_of}
use Rattle.steps.specs.Among.{keeps_first}
use Rattle.steps.specs.Entry.{answered, outcome_by, outcome}
use Rattle.pages.specs.Decimal.{digits_up_to, digits, decimal}
use Rattle.sheet_words.specs.Number.{separator, in_word, digit, run, skip, word, after_word, value, decimal as decimal_n, magnitude, signed, number_of, within, in_range, and_rest, number}
use Rattle.sheet_form.specs.Sections.{and_then, before, numbers, section, after, or_fault, ended, sections, layout, reading}
use Rattle.sheet_form.specs.Sheets.{default_paths, paths_of, with_default}
use Rattle.sheet_text.specs.Text.{line_of, answer_text, fault_text}
use Rattle.sheet_page.specs.Calls.{sheet_call, defaulted, frame_length, pulses_for, sheet_outcome}
use Rattle.sheet_page.specs.Page.{outcome_text, found_page, sheet_page}

-- `12 0 0 0 0 0 0 0 0 0 0 0 0 0 0 0 0 0 0 0 0 0`: twelve settings of 0 and nine empty sections, refused for L and n: `answer 1`
pub refused : sheet_page keeps_first (49 ∷ 50 ∷ 32 ∷ 48 ∷ 32 ∷ 48 ∷ 32 ∷ 48 ∷ 32 ∷ 48 ∷ 32 ∷ 48 ∷ 32 ∷ 48 ∷ 32 ∷ 48 ∷ 32 ∷ 48 ∷ 32 ∷ 48 ∷ 32 ∷ 48 ∷ 32 ∷ 48 ∷ 32 ∷ 48 ∷ 32 ∷ 48 ∷ 32 ∷ 48 ∷ 32 ∷ 48 ∷ 32 ∷ 48 ∷ 32 ∷ 48 ∷ 32 ∷ 48 ∷ 32 ∷ 48 ∷ 32 ∷ 48 ∷ 32 ∷ 48 ∷ []) ≡ 97 ∷ 110 ∷ 115 ∷ 119 ∷ 101 ∷ 114 ∷ 32 ∷ 49 ∷ 10 ∷ []
unfolding sheet_page found_page outcome_text sheet_outcome pulses_for frame_length defaulted sheet_call with_default paths_of default_paths settings_of outcome outcome_by answered answer_of table lengths_refused length_allowed count_allowed reading layout sections ended or_fault after section numbers before and_then number and_rest in_range within number_of signed magnitude decimal_n value after_word word skip run digit in_word separator answer_text fault_text line_of decimal digits digits_up_to zeros fresh_state
refused = refl

-- nothing at all: `sheet fault 1`; `12 1`, which ends too early: the same; `12 0 0 0 0 0 0 0 0 0 0 0 0 0 0 0 0 0 0 0 0 0 0`, one word too many: `sheet fault 11`
pub faults : (sheet_page keeps_first [] ≡ 115 ∷ 104 ∷ 101 ∷ 101 ∷ 116 ∷ 32 ∷ 102 ∷ 97 ∷ 117 ∷ 108 ∷ 116 ∷ 32 ∷ 49 ∷ 10 ∷ []) × (sheet_page keeps_first (49 ∷ 50 ∷ 32 ∷ 49 ∷ []) ≡ 115 ∷ 104 ∷ 101 ∷ 101 ∷ 116 ∷ 32 ∷ 102 ∷ 97 ∷ 117 ∷ 108 ∷ 116 ∷ 32 ∷ 49 ∷ 10 ∷ []) × (sheet_page keeps_first (49 ∷ 50 ∷ 32 ∷ 48 ∷ 32 ∷ 48 ∷ 32 ∷ 48 ∷ 32 ∷ 48 ∷ 32 ∷ 48 ∷ 32 ∷ 48 ∷ 32 ∷ 48 ∷ 32 ∷ 48 ∷ 32 ∷ 48 ∷ 32 ∷ 48 ∷ 32 ∷ 48 ∷ 32 ∷ 48 ∷ 32 ∷ 48 ∷ 32 ∷ 48 ∷ 32 ∷ 48 ∷ 32 ∷ 48 ∷ 32 ∷ 48 ∷ 32 ∷ 48 ∷ 32 ∷ 48 ∷ 32 ∷ 48 ∷ 32 ∷ 48 ∷ 32 ∷ 48 ∷ []) ≡ 115 ∷ 104 ∷ 101 ∷ 101 ∷ 116 ∷ 32 ∷ 102 ∷ 97 ∷ 117 ∷ 108 ∷ 116 ∷ 32 ∷ 49 ∷ 49 ∷ 10 ∷ [])
unfolding sheet_page found_page outcome_text sheet_outcome pulses_for frame_length defaulted sheet_call with_default paths_of default_paths settings_of outcome outcome_by answered answer_of table lengths_refused length_allowed count_allowed reading layout sections ended or_fault after section numbers before and_then number and_rest in_range within number_of signed magnitude decimal_n value after_word word skip run digit in_word separator answer_text fault_text line_of decimal digits digits_up_to zeros fresh_state
faults = (refl, refl, refl)
