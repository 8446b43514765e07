-- The definition computed on small inputs. Assumes nothing.
use mathlib.Core.Path.{◌≡◌, refl}
use mathlib.Core.List.{[], ◌∷◌}
use Rattle.silk.specs.State.{zeros}
use Rattle.limits.specs.Tests.{outside}
use Rattle.rfc6716.specs.Excitation.{offset_Q23, value, next_seed, negates, signed, seed_after, pulse, excitation}
use Rattle.pages.specs.Decimal.{digits_up_to, digits, decimal}
use Rattle.sheet_words.specs.Number.{separator, in_word, digit, run, skip, word, after_word, value as value_n, decimal as decimal_n, magnitude, signed as signed_n, number_of, within, in_range, and_rest, number}
use Rattle.sheet_form.specs.Sections.{and_then, before, numbers, section, after, or_fault, ended, sections}
use Rattle.sheet_text.specs.Text.{line_of, after_pulse, pulse_lines, fault_text}
use Rattle.excitation.specs.Refused.{seed_refused, kinds_refused, rows_refused, table, answer_of}
use Rattle.excitation.specs.Reading.{heard_row, heard_by, reading}
use Rattle.hear_text.specs.Heard.{form, found, answer_text, heard_text, call_text, sections_text, text_of, hear_text}

-- `3 2 2 1 2 0 -1`: the two values of a voiced frame's pulses 0 and -1, in a line after `answer 0`
pub two-pulses : hear_text (51 ∷ 32 ∷ 50 ∷ 32 ∷ 50 ∷ 32 ∷ 49 ∷ 32 ∷ 50 ∷ 32 ∷ 48 ∷ 32 ∷ 45 ∷ 49 ∷ []) ≡ 97 ∷ 110 ∷ 115 ∷ 119 ∷ 101 ∷ 114 ∷ 32 ∷ 48 ∷ 10 ∷ 50 ∷ 53 ∷ 32 ∷ 45 ∷ 50 ∷ 49 ∷ 49 ∷ 10 ∷ []
unfolding hear_text text_of sections_text call_text heard_text answer_text found form reading heard_by heard_row answer_of table seed_refused kinds_refused rows_refused line_of after_pulse pulse_lines fault_text sections ended or_fault after section numbers before and_then number and_rest in_range within number_of signed_n magnitude decimal_n value_n after_word word skip run digit in_word separator decimal digits digits_up_to excitation pulse seed_after signed negates next_seed value offset_Q23 outside zeros
two-pulses = refl

-- `3 4 0 0 0`, a seed of 4: `answer 1`
pub seed-4 : hear_text (51 ∷ 32 ∷ 52 ∷ 32 ∷ 48 ∷ 32 ∷ 48 ∷ 32 ∷ 48 ∷ []) ≡ 97 ∷ 110 ∷ 115 ∷ 119 ∷ 101 ∷ 114 ∷ 32 ∷ 49 ∷ 10 ∷ []
unfolding hear_text text_of sections_text call_text heard_text answer_text found form reading heard_by heard_row answer_of table seed_refused kinds_refused rows_refused line_of after_pulse pulse_lines fault_text sections ended or_fault after section numbers before and_then number and_rest in_range within number_of signed_n magnitude decimal_n value_n after_word word skip run digit in_word separator decimal digits digits_up_to excitation pulse seed_after signed negates next_seed value offset_Q23 outside zeros
seed-4 = refl

-- `3 0 0 0 1`, which ends too early: `sheet fault 2`; nothing at all: `sheet fault 1`; `3 0 0 0 0 7`, a word after the sections: `sheet fault 3`
pub faults : (hear_text (51 ∷ 32 ∷ 48 ∷ 32 ∷ 48 ∷ 32 ∷ 48 ∷ 32 ∷ 49 ∷ []) ≡ 115 ∷ 104 ∷ 101 ∷ 101 ∷ 116 ∷ 32 ∷ 102 ∷ 97 ∷ 117 ∷ 108 ∷ 116 ∷ 32 ∷ 50 ∷ 10 ∷ []) × (hear_text [] ≡ 115 ∷ 104 ∷ 101 ∷ 101 ∷ 116 ∷ 32 ∷ 102 ∷ 97 ∷ 117 ∷ 108 ∷ 116 ∷ 32 ∷ 49 ∷ 10 ∷ []) × (hear_text (51 ∷ 32 ∷ 48 ∷ 32 ∷ 48 ∷ 32 ∷ 48 ∷ 32 ∷ 48 ∷ 32 ∷ 55 ∷ []) ≡ 115 ∷ 104 ∷ 101 ∷ 101 ∷ 116 ∷ 32 ∷ 102 ∷ 97 ∷ 117 ∷ 108 ∷ 116 ∷ 32 ∷ 51 ∷ 10 ∷ [])
unfolding hear_text text_of sections_text call_text heard_text answer_text found form reading heard_by heard_row answer_of table seed_refused kinds_refused rows_refused line_of after_pulse pulse_lines fault_text sections ended or_fault after section numbers before and_then number and_rest in_range within number_of signed_n magnitude decimal_n value_n after_word word skip run digit in_word separator decimal digits digits_up_to excitation pulse seed_after signed negates next_seed value offset_Q23 outside zeros
faults = (refl, refl, refl)
