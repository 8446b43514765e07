-- What is printed: docs/RULES.md, "The call sheet". The text of an answer, of a fault, and of a sheet, as bytes.
-- Assumes nothing.
use Rattle.std.specs.Prelude.{ℕ, suc, ◌+◌, ◌%◌, List, [], ◌∷◌, ◌++◌, length, ℤ, pos, eqb}
use Rattle.fixed.specs.Iter.{either}
use Rattle.pages.specs.Decimal.{decimal}

-- `answer ` as bytes
abbrev pub answer_word : List ℕ
answer_word = 97 ∷ 110 ∷ 115 ∷ 119 ∷ 101 ∷ 114 ∷ 32 ∷ []

-- `seed ` as bytes
abbrev pub seed_word : List ℕ
seed_word = 115 ∷ 101 ∷ 101 ∷ 100 ∷ 32 ∷ []

-- `sheet fault ` as bytes
abbrev pub fault_word : List ℕ
fault_word = 115 ∷ 104 ∷ 101 ∷ 101 ∷ 116 ∷ 32 ∷ 102 ∷ 97 ∷ 117 ∷ 108 ∷ 116 ∷ 32 ∷ []

-- a word, a number and a line feed
unfoldable pub line_of : List ℕ → ℤ → List ℕ
line_of w z = w ++ decimal z ++ (10 ∷ [])

-- what follows pulse i of n: a line feed after each twentieth and after the last, else a space
unfoldable pub after_pulse : ℕ → ℕ → ℕ
after_pulse n i = either (eqb (i % 20) 19) 10 (either (eqb (i + 1) n) 10 32)

-- the pulses from pulse i of n on, twenty to a line with one space between; rows of other numbers, as samples, are printed in such lines too
unfoldable pub pulse_lines : ℕ → ℕ → List ℤ → List ℕ
pulse_lines n i [] = []
pulse_lines n i (z ∷ zs) = decimal z ++ (after_pulse n i ∷ pulse_lines n (suc i) zs)

-- the answer of an accepted call, with its seed and all its pulses
unfoldable pub accepted_text : ℤ → List ℤ → List ℕ
accepted_text seed pulses = line_of answer_word (pos 0) ++ line_of seed_word seed ++ pulse_lines (length pulses) 0 pulses

-- an answer: a refusal has its number alone
unfoldable pub answer_text : ℕ → ℤ → List ℤ → List ℕ
answer_text number seed pulses = either (eqb number 0) (accepted_text seed pulses) (line_of answer_word (pos number))

-- a sheet's fault
unfoldable pub fault_text : ℕ → List ℕ
fault_text k = line_of fault_word (pos k)

-- numbers, each after a space
unfoldable pub spaced : List ℤ → List ℕ
spaced [] = []
spaced (z ∷ zs) = 32 ∷ decimal z ++ spaced zs

-- a section on its line: its count, and its numbers
unfoldable pub section_text : List ℤ → List ℕ
section_text zs = decimal (pos (length zs)) ++ spaced zs ++ (10 ∷ [])

-- a sheet: its sections, one to a line
unfoldable pub sheet_text : List (List ℤ) → List ℕ
sheet_text [] = []
sheet_text (zs ∷ rows) = section_text zs ++ sheet_text rows
