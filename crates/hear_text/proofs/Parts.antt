-- The parts of the text, as the code puts them together. Assumes nothing.
use mathlib.Core.Path.{◌≡◌, sym}
use mathlib.Core.List.{List, [], ◌∷◌, ◌++◌, append-nil}
use Prim.Native.Nat.{ℕ}
use lib.ListN.{length, get_or}
use lib.IntN.{ℤ, pos}
use borrow.Author.Tests.{ne_eqb}
use Rattle.std.specs.Prelude.{Result, Ok, Err}
use Rattle.sheet_form.specs.Sections.{fault, sheet, triple, row, i8}
use Rattle.sheet_form.specs.Found.{take_section}
use Rattle.sheet_form.specs.Sheets.{start_rest}
use Rattle.sheet_form.proofs.Whole.{Led, first-on, first-stop, first-took, first-missed}
use Rattle.sheet_text.specs.Text.{line_of, answer_word, pulse_lines, fault_text}
use Rattle.hear_text.specs.Heard.{form, found, answer_text, call_text, sections_text, text_of, hear_text}

-- ---- an answer: its line, and after number 0 the values
pub values-text : (number : ℕ) (values : List ℤ) → number ≡ 0 → line_of answer_word (pos number) ++ pulse_lines (length values) 0 values ≡ answer_text number values
unfolding answer_text
values-text number values e = rw e

pub number-text : (number : ℕ) (values : List ℤ) → (number ≡ 0 → ⊥) → line_of answer_word (pos number) ≡ answer_text number values
unfolding answer_text
number-text number values h = rw (ne_eqb number 0 h) (sym (append-nil (line_of answer_word (pos number))))

-- ---- the two sections one after the other
pub found-on : (s t : List ℕ) → Ok t ≡ start_rest s → Led (found s) [] (triple ∷ row i8 ∷ []) 1 t
unfolding found form
found-on s t e = first-on form s t e

pub found-stop : (s : List ℕ) (k : ℕ) → Err k ≡ start_rest s → found s ≡ fault k
unfolding found
found-stop s k e = first-stop form s k e

-- the first section, taken from the start on
pub found-took : (s : List ℕ) {t : List ℕ} {zs : List ℤ} (r : Result (List ℕ) ℕ) → r ≡ start_rest s → Ok (zs, t) ≡ take_section triple 1 r
    → Led (found s) (zs ∷ []) (row i8 ∷ []) 2 t
unfolding found form
found-took s r e f = first-took triple _ s r e f

pub found-missed : (s : List ℕ) {j : ℕ} (r : Result (List ℕ) ℕ) → r ≡ start_rest s → Err j ≡ take_section triple 1 r → found s ≡ fault j
unfolding found form
found-missed s r e f = first-missed triple _ s r e f

-- the text of a fault
pub text-fault : (s : List ℕ) (j k : ℕ) → j ≡ k → found s ≡ fault k → fault_text j ≡ hear_text s
unfolding hear_text text_of
text-fault s j k f e = rw (e, f)

-- the text of a call
pub text-good : (s : List ℕ) (three pulses : List ℤ) → found s ≡ sheet (three ∷ pulses ∷ [])
    → call_text (get_or three 0 (pos 0)) (get_or three 1 (pos 0)) (get_or three 2 (pos 0)) pulses ≡ hear_text s
unfolding hear_text text_of sections_text
text-good s three pulses e = rw e
