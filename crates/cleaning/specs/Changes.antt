-- The list of changes between the sections of a sheet and what they became: docs/RULES.md, "The program `clean`". Assumes nothing.
use Rattle.std.specs.Prelude.{ℕ, suc, ◌-◌, ◌<◌, ◌≤◌, ◌≡◌, List, [], ◌∷◌, ◌++◌, ◌⊎◌, get_or, set, length, ℤ}
use Rattle.fixed.specs.Iter.{either}
use Rattle.fixed.specs.Row.{word}
use Rattle.limits.specs.Count.{same_z}

-- a number that became another: the section's number and the place in it, both from 1, the number before and the number after
pub record Change : Type 0 where
  pub section : ℕ
  pub place : ℕ
  pub old : ℤ
  pub new : ℤ

-- the four together
abbrev pub change_of : ℕ → ℕ → ℤ → ℤ → Change
change_of s p a b = record { section = s; place = p; old = a; new = b }

-- a number at a place, before the changes after it; a number that stays is no change
unfoldable pub listed : ℕ → ℕ → ℤ → ℤ → List Change → List Change
listed s p a b rest = either (same_z a b) rest (change_of s p a b ∷ rest)

-- the changes of section s from place p on, in order of their places; the two rows have one length
unfoldable pub changes_in : ℕ → ℕ → List ℤ → List ℤ → List Change
changes_in s p [] [] = []
changes_in s p [] (b ∷ new) = []
changes_in s p (a ∷ old) [] = []
changes_in s p (a ∷ old) (b ∷ new) = listed s p a b (changes_in s (suc p) old new)

-- the changes of all sections, of which the first is section s, in sheet order
unfoldable pub changes_from : ℕ → List (List ℤ) → List (List ℤ) → List Change
changes_from s [] [] = []
changes_from s [] (b ∷ new) = []
changes_from s (a ∷ old) [] = []
changes_from s (a ∷ old) (b ∷ new) = changes_in s 1 a b ++ changes_from (suc s) old new

-- the changes of a sheet, whose first section is section 1
unfoldable pub changes : List (List ℤ) → List (List ℤ) → List Change
changes old new = changes_from 1 old new

-- ---- back from what they became
-- a section's row with the old number in its place
unfoldable pub put_back_in : List ℤ → ℕ → ℤ → List ℤ
put_back_in row p z = set row (p - 1) z

-- the sections, of which the first is section s, with a change's old number in its place
unfoldable pub put_back : ℕ → Change → List (List ℤ) → List (List ℤ)
put_back s c rows = set rows (c.section - s) (put_back_in (get_or rows (c.section - s) []) c.place c.old)

-- .. with the old numbers of all these changes
unfoldable pub undone : ℕ → List Change → List (List ℤ) → List (List ℤ)
undone s [] rows = rows
undone s (c ∷ cs) rows = undone s cs (put_back s c rows)

-- ---- what the list is to be
-- two sheets with as many sections, and as many numbers in each
pub record SameShape (old new : List (List ℤ)) : Type 0 where
  pub sections : length old ≡ length new
  pub numbers : (k : ℕ) → length (get_or old k []) ≡ length (get_or new k [])

-- section k of a sheet, from 1
abbrev pub section_at : List (List ℤ) → ℕ → List ℤ
section_at rows k = get_or rows (k - 1) []

-- the number at place i of a section, from 1
abbrev pub number_at : List ℤ → ℕ → ℤ
number_at row i = word row (i - 1)

-- a section and a place that are there, what stands there in each of the two sheets, and that it isn't the same
pub record Differ (old new : List (List ℤ)) (c : Change) : Type 0 where
  pub section_low : 1 ≤ c.section
  pub section_high : c.section ≤ length old
  pub place_low : 1 ≤ c.place
  pub place_high : c.place ≤ length (section_at old c.section)
  pub before : c.old ≡ number_at (section_at old c.section) c.place
  pub after : c.new ≡ number_at (section_at new c.section) c.place
  pub other : c.old ≡ c.new → ⊥

-- c is in the list
abbrev pub Has : Change → List Change → Type 0
Has c [] = ⊥
Has c (d ∷ cs) = (c ≡ d) ⊎ Has c cs

-- c stands before d on the sheet
abbrev pub Before : Change → Change → Type 0
Before c d = (c.section < d.section) ⊎ ((c.section ≡ d.section) × (c.place < d.place))

-- each stands before all after it
abbrev pub InOrder : List Change → Type 0
InOrder [] = Unit {0}
InOrder (c ∷ cs) = ((d : Change) → Has d cs → Before c d) × InOrder cs
