-- The ten sections of a call sheet: docs/RULES.md, "The call sheet". A list of bytes is a sheet, ten lists of numbers, or
-- it has a fault, whose number says which section can't be read.
-- Assumes nothing.
use Rattle.std.specs.Prelude.{ℕ, zero, suc, List, [], ◌∷◌, length, ℤ, pos, negsuc, nat_abs, ltb, eqb}
use Rattle.fixed.specs.Iter.{either}
use Rattle.sheet_words.specs.Number.{Range, Read, got, bad, run, separator, number}

-- what a section's count may be, and what its numbers may be
pub record Kind : Type 0 where
  pub counts : Range
  pub words : Range

-- the numbers of an i8
abbrev pub i8 : Range
i8 = record { low = negsuc 127; high = pos 127 }

-- the numbers of an i16
abbrev pub i16 : Range
i16 = record { low = negsuc 32767; high = pos 32767 }

-- the numbers of an i32
abbrev pub i32 : Range
i32 = record { low = negsuc 2147483647; high = pos 2147483647 }

-- section 1: exactly 12 settings
abbrev pub settings : Kind
settings = record { counts = record { low = pos 12; high = pos 12 }; words = i32 }

-- exactly three numbers; no section of a call sheet is one
abbrev pub triple : Kind
triple = record { counts = record { low = pos 3; high = pos 3 }; words = i32 }

-- any other: 0 to 320 numbers
abbrev pub row : Range → Kind
row w = record { counts = record { low = pos 0; high = pos 320 }; words = w }

-- the ten sections: settings; samples, PredCoef, LTPCoef, AR; harmonic gains, tilts, LFs, gains, lags
unfoldable pub layout : List Kind
layout = settings ∷ row i16 ∷ row i16 ∷ row i16 ∷ row i16 ∷ row i32 ∷ row i32 ∷ row i32 ∷ row i32 ∷ row i32 ∷ []

-- what was read goes on to the next step, with the bytes after it
unfoldable pub and_then : {A B : Type 0} → Read A → (A → List ℕ → Read B) → Read B
and_then (got a s) next = next a s
and_then bad next = bad

-- z before the numbers that were read after it
unfoldable pub before : ℤ → Read (List ℤ) → Read (List ℤ)
before z (got zs s) = got (z ∷ zs) s
before z bad = bad

-- n numbers of the range, one after the other
unfoldable pub numbers : Range → ℕ → List ℕ → Read (List ℤ)
numbers r zero s = got [] s
numbers r (suc n) s = and_then (number r s) (λ z t. before z (numbers r n t))

-- a section: its count, and that many numbers
unfoldable pub section : Kind → List ℕ → Read (List ℤ)
section kind s = and_then (number kind.counts s) (λ n t. numbers kind.words (nat_abs n) t)

-- what a sheet is found to be: faulty, with the fault's number; or good, with the numbers of its sections
pub data Reading : Type 0 where
  fault : ℕ → Reading
  sheet : List (List ℤ) → Reading

-- a section's numbers before those of the sections after it
unfoldable pub after : List ℤ → Reading → Reading
after zs (fault k) = fault k
after zs (sheet rows) = sheet (zs ∷ rows)

-- what is found after section k: its own fault, or what the bytes after it are found to be
unfoldable pub or_fault : ℕ → Read (List ℤ) → (List ℕ → Reading) → Reading
or_fault k (got zs s) next = after zs (next s)
or_fault k bad next = fault k

-- after the last section, only separators; else fault k
unfoldable pub ended : ℕ → List ℕ → Reading
ended k s = either (eqb (run separator s) (length s)) (sheet []) (fault k)

-- these sections, of which the first is section k: the first that can't be read is the fault
unfoldable pub sections : List Kind → ℕ → List ℕ → Reading
sections [] k s = ended k s
sections (kind ∷ kinds) k s = or_fault k (section kind s) (sections kinds (suc k))

-- the whole: fault 0 above 65536 bytes, looked at first; else the ten sections, of which the first is section 1
unfoldable pub reading : List ℕ → Reading
reading s = either (ltb 65536 (length s)) (fault 0) (sections layout 1 s)
