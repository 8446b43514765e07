-- The text of the program `hear` for every input, byte for byte. The input is a sheet of two sections, in the words of a call sheet
-- (docs/RULES.md, "The sheet of `hear`"); its faults are numbered and printed as there. Assumes nothing.
use Rattle.std.specs.Prelude.{ℕ, List, [], ◌∷◌, ◌++◌, length, get_or, ℤ, pos, ltb, eqb}
use Rattle.fixed.specs.Iter.{either}
use Rattle.silk.specs.State.{zeros}
use Rattle.sheet_form.specs.Sections.{Kind, Reading, fault, sheet, triple, row, i8, sections}
use Rattle.sheet_text.specs.Text.{line_of, answer_word, pulse_lines, fault_text}
use Rattle.excitation.specs.Code.{code_of}
use Rattle.excitation.specs.Reading.{Heard, reading}

-- the two sections: seed, signal type and offset type; 0 to 320 pulses
unfoldable pub form : List Kind
form = triple ∷ row i8 ∷ []

-- what the input is found to be: fault 0 above 65536 bytes, looked at first; else the two sections, of which the first is section 1
unfoldable pub found : List ℕ → Reading
found s = either (ltb 65536 (length s)) (fault 0) (sections form 1 s)

-- an answer by its number: a line of its own, and after number 0 the values, twenty to a line
unfoldable pub answer_text : ℕ → List ℤ → List ℕ
answer_text number values = line_of answer_word (pos number) ++ either (eqb number 0) (pulse_lines (length values) 0 values) []

-- the text of what the reader leaves
unfoldable pub heard_text : Heard → List ℕ
heard_text h = answer_text (code_of h.answer) h.row

-- the text of the reader's call. The row that is lent has one zero for each pulse
unfoldable pub call_text : ℤ → ℤ → ℤ → List ℤ → List ℕ
call_text seed signalType offset_type pulses = heard_text (reading seed signalType offset_type pulses (zeros (length pulses)))

-- the call by its two sections: the three numbers in their order, and the pulses
unfoldable pub sections_text : List ℤ → List ℤ → List ℕ
sections_text three pulses = call_text (get_or three 0 (pos 0)) (get_or three 1 (pos 0)) (get_or three 2 (pos 0)) pulses

-- the text of a sheet: its fault, or that of its call
unfoldable pub text_of : Reading → List ℕ
text_of (fault k) = fault_text k
text_of (sheet rows) = sections_text (get_or rows 0 []) (get_or rows 1 [])

-- the program's text
unfoldable pub hear_text : List ℕ → List ℕ
hear_text s = text_of (found s)
