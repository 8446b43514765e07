-- Whole numbers as counts, and when two are the same.
-- Assumes nothing.
use Rattle.std.specs.Prelude.{ℕ, Bool, false, ℤ, pos, negsuc, eqb}

-- z as a count: 0 for a negative z
abbrev pub nat_z : ℤ → ℕ
nat_z (pos n) = n
nat_z (negsuc n) = 0

-- are a and b the same number?
abbrev pub same_z : ℤ → ℤ → Bool
same_z (pos a) (pos b) = eqb a b
same_z (pos a) (negsuc b) = false
same_z (negsuc a) (pos b) = false
same_z (negsuc a) (negsuc b) = eqb a b
