-- What a reader of the text needs to know where its parts are: the kinds of input, the first byte, and the lines. The theorems speak in these
-- words; the text itself is specs/Text.antt. Assumes nothing.
use Rattle.std.specs.Prelude.{ℕ, zero, suc, ◌-◌, ◌≤◌, ◌<◌, ◌≡◌, List, [], ◌∷◌, get_or, ℤ, eqb}
use Rattle.fixed.specs.Iter.{either}
use Rattle.refusal_rules.specs.Code.{code_of}
use Rattle.sheet_form.specs.Sections.{fault, sheet, reading}
use Rattle.sheet_page.specs.Calls.{sheet_answer}

-- ---- the three kinds of input
-- bytes that can't be read as a sheet
pub record Faulty (s : List ℕ) : Type 0 where
  pub number : ℕ
  pub read : reading s ≡ fault number

-- a sheet whose call is refused
pub record Refused (s : List ℕ) : Type 0 where
  pub rows : List (List ℤ)
  pub read : reading s ≡ sheet rows
  pub answer : 0 < code_of (sheet_answer rows)

-- a sheet whose call is accepted
pub record Accepted (s : List ℕ) : Type 0 where
  pub rows : List (List ℤ)
  pub read : reading s ≡ sheet rows
  pub answer : code_of (sheet_answer rows) ≡ 0

-- ---- the first byte
-- the first byte of a text; 0, which no text begins with, where there is none
abbrev pub first_byte : List ℕ → ℕ
first_byte s = get_or s 0 0

-- it is a digit
pub record DigitFirst (s : List ℕ) : Type 0 where
  pub least : 48 ≤ first_byte s
  pub most : first_byte s ≤ 57

-- ---- lines, each of which ends with a line feed (byte 10)
-- how many there are
unfoldable pub feeds : List ℕ → ℕ
feeds [] = 0
feeds (b ∷ s) = either (eqb b 10) (suc (feeds s)) (feeds s)

-- what follows the first n of them
unfoldable pub after_lines : ℕ → List ℕ → List ℕ
after_lines zero s = s
after_lines (suc n) [] = []
after_lines (suc n) (b ∷ s) = either (eqb b 10) (after_lines n s) (after_lines (suc n) s)

-- the last n of them
unfoldable pub last_lines : ℕ → List ℕ → List ℕ
last_lines n s = after_lines (feeds s - n) s
