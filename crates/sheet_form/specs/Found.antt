-- What the code's answers say, in the terms of the definitions: a place in the text stands for the bytes from it on.
-- Assumes nothing.
use Rattle.std.specs.Prelude.{◌≡◌, ℕ, ◌-◌, false, List, ◌++◌, length, drop, ℤ, pos, Option, Some, None, Result, Ok, Err}
use Rattle.std.specs.Int.Signed.{lt_z}
use Rattle.sheet_form.specs.Rows.{Words}
use Rattle.silk.specs.State.{zeros}
use Rattle.sheet_words.specs.Number.{Range, Read, got, bad}
use Rattle.sheet_form.specs.Sections.{Kind, section}
use Rattle.sheet_form.specs.declared.fault.Fault.{Fault}
use Rattle.sheet_form.specs.declared.number.Bounds.{Bounds}
use Rattle.sheet_form.specs.declared.section.Counts.{Counts}

-- the range between bounds
abbrev pub range : Bounds → Range
range b = record { low = b.low; high = b.high }

-- z is not below the range and not above it
abbrev pub Within : Range → ℤ → Type 0
Within r z = (lt_z z r.low ≡ false) × (lt_z r.high z ≡ false)

-- the kind of a section, by the bounds of its count and the range of its numbers
abbrev pub kind : Counts → Range → Kind
kind c r = record { counts = record { low = pos c.least; high = pos c.most }; words = r }

-- a number and the place after it
abbrev pub number_found : List ℕ → Option (ℤ × ℕ) → Read ℤ
number_found text (Some p) = got p.0 (drop p.1 text)
number_found text None = bad

-- the numbers of a row and the place after them
abbrev pub numbers_found : {R : Type 0} → (R → List ℤ) → List ℕ → Option (R × ℕ) → Read (List ℤ)
numbers_found numbers text (Some p) = got (numbers p.0) (drop p.1 text)
numbers_found numbers text None = bad

-- the numbers of a row
abbrev pub items : Words ℤ → List ℤ
items row = row.items

-- what was read as section k: its numbers and the bytes after it, or fault k
unfoldable pub taken : ℕ → Read (List ℤ) → Result (List ℤ × List ℕ) ℕ
taken k (got zs s) = Ok (zs, s)
taken k bad = Err k

-- section k of what is left; after a fault there is none, and that fault is handed on
abbrev pub take_section : Kind → ℕ → Result (List ℕ) ℕ → Result (List ℤ × List ℕ) ℕ
take_section asked k (Ok s) = taken k (section asked s)
take_section asked k (Err j) = Err j

-- the numbers, and zeros up to 320 places
unfoldable pub padded : List ℤ → List ℤ
padded zs = zs ++ zeros (320 - length zs)

-- a row and the place after it, or a fault
abbrev pub section_found : {R : Type 0} → (R → List ℤ) → List ℕ → Result (R × ℕ) Fault → Result (List ℤ × List ℕ) ℕ
section_found numbers text (Ok p) = Ok (numbers p.0, drop p.1 text)
section_found numbers text (Err f) = Err f.number

-- a place, or a fault
abbrev pub rest_at : List ℕ → Result ℕ Fault → Result (List ℕ) ℕ
rest_at text (Ok p) = Ok (drop p text)
rest_at text (Err f) = Err f.number
