-- What the program `clean` prints for any bytes: docs/RULES.md, "The program `clean`". Assumes nothing.
use Rattle.std.specs.Prelude.{ℕ, List, [], ◌∷◌, ◌++◌, ℤ, pos, eqb}
use Rattle.fixed.specs.Iter.{either}
use Rattle.pages.specs.Decimal.{decimal}
use Rattle.refusal_rules.specs.Code.{code_of}
use Rattle.sheet_form.specs.Sections.{Reading, fault, sheet, reading}
use Rattle.sheet_text.specs.Text.{answer_word, line_of, fault_text, sheet_text}
use Rattle.sheet_page.specs.Calls.{sheet_answer}
use Rattle.cleaning.specs.Changes.{Change, changes}
use Rattle.clean_page.specs.Sheets.{cleaned_rows}

-- a change on its line: section, place, old and new with one space between
unfoldable pub change_text : Change → List ℕ
change_text c = decimal (pos c.section) ++ (32 ∷ decimal (pos c.place)) ++ (32 ∷ decimal c.old) ++ (32 ∷ decimal c.new) ++ (10 ∷ [])

-- changes, one to a line
unfoldable pub changes_text : List Change → List ℕ
changes_text [] = []
changes_text (c ∷ cs) = change_text c ++ changes_text cs

-- a sheet that became another: a line for each change, then the new sheet
unfoldable pub became_text : List (List ℤ) → List (List ℤ) → List ℕ
became_text old new = changes_text (changes old new) ++ sheet_text new

-- a sheet that is refused with a number: `answer` and the number on a line, then the bytes as they came
unfoldable pub refused_text : ℕ → List ℕ → List ℕ
refused_text number s = line_of answer_word (pos number) ++ s

-- the bytes s of a sheet, by the number that its call gets: with 0, accepted, it becomes the cleaned sheet
unfoldable pub numbered_text : ℕ → List ℕ → List (List ℤ) → List ℕ
numbered_text number s rows = either (eqb number 0) (became_text rows (cleaned_rows rows)) (refused_text number s)

-- the bytes s, by what they are found to be
unfoldable pub found_text : List ℕ → Reading → List ℕ
found_text s (fault k) = fault_text k
found_text s (sheet rows) = numbered_text (code_of (sheet_answer rows)) s rows

-- the text for the bytes s
unfoldable pub clean_text : List ℕ → List ℕ
clean_text s = found_text s (reading s)
