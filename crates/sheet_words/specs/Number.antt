-- The words and the numbers of a call sheet: docs/RULES.md, "The call sheet". A sheet is a list of bytes.
-- Assumes nothing.
use Rattle.std.specs.Prelude.{ℕ, suc, ◌-◌, ◌+◌, ◌*◌, Bool, true, false, not, List, [], ◌∷◌, length, take, drop, ℤ, pos, neg_ℤ, leb, eqb, Option, Some, None}
use Rattle.std.specs.Int.Signed.{lt_z}
use Rattle.fixed.specs.Iter.{either}

-- ---- words
-- a space or a line feed; nothing else separates
unfoldable pub separator : ℕ → Bool
separator b = either (eqb b 32) true (eqb b 10)

-- any other byte
unfoldable pub in_word : ℕ → Bool
in_word b = not (separator b)

-- one of the bytes `0` to `9`
unfoldable pub digit : ℕ → Bool
digit b = either (leb 48 b) (leb b 57) false

-- how many bytes s begins with that pass the test
unfoldable pub run : (ℕ → Bool) → List ℕ → ℕ
run test [] = 0
run test (b ∷ s) = either (test b) (suc (run test s)) 0

-- s after the separators that it begins with: leading and repeated ones do not matter
unfoldable pub skip : List ℕ → List ℕ
skip s = drop (run separator s) s

-- the word that s begins with: all bytes up to the next separator or the end
unfoldable pub word : List ℕ → List ℕ
word s = take (run in_word s) s

-- s after that word
unfoldable pub after_word : List ℕ → List ℕ
after_word s = drop (run in_word s) s

-- ---- numbers. `None` is a number that can't be read
-- the value of digits, the highest first, with v for those before them
unfoldable pub value : ℕ → List ℕ → ℕ
value v [] = v
value v (d ∷ ds) = value (v * 10 + (d - 48)) ds

-- 1 to 10 bytes, all of them digits
unfoldable pub decimal : List ℕ → Bool
decimal ds = either (leb 1 (length ds)) (either (leb (length ds) 10) (eqb (run digit ds) (length ds)) false) false

-- the value of 1 to 10 digits
unfoldable pub magnitude : List ℕ → Option ℕ
magnitude ds = either (decimal ds) (Some (value 0 ds)) None

-- m, with or without a minus before it
unfoldable pub signed : Bool → Option ℕ → Option ℤ
signed minus (Some m) = Some (either minus (neg_ℤ (pos m)) (pos m))
signed minus None = None

-- an optional minus (byte 45) and 1 to 10 digits: leading zeros and `-0` are numbers
unfoldable pub number_of : List ℕ → Option ℤ
number_of [] = None
number_of (b ∷ ds) = either (eqb b 45) (signed true (magnitude ds)) (signed false (magnitude (b ∷ ds)))

-- from `low` to `high`, ends included
pub record Range : Type 0 where
  pub low : ℤ
  pub high : ℤ

-- a number that is not below the range and not above it
unfoldable pub within : Range → ℤ → Option ℤ
within r z = either (lt_z z r.low) None (either (lt_z r.high z) None (Some z))

-- a word as a number of the range
unfoldable pub in_range : Range → Option ℤ → Option ℤ
in_range r (Some z) = within r z
in_range r None = None

-- what is read from the front of a sheet, and the bytes after it; or that it can't be read
pub data Read (A : Type 0) : Type 0 where
  got : A → List ℕ → Read A
  bad : Read A

-- .. with these bytes after it
unfoldable pub and_rest : {A : Type 0} → Option A → List ℕ → Read A
and_rest (Some a) s = got a s
and_rest None s = bad

-- the next word as a number of the range. Where only separators are left the word is empty, which is no number
unfoldable pub number : Range → List ℕ → Read ℤ
number r s = and_rest (in_range r (number_of (word (skip s)))) (after_word (skip s))
