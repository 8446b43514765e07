-- Arithmetic on whole numbers as a machine of few bits does it: a number that leaves the range comes back in at the other end.
-- Assumes nothing.
use Rattle.std.specs.Prelude.{ℕ, suc, ◌-◌, ◌*◌, ◌%◌, ◌^◌, ℤ, pos, negsuc, ◌+ℤ◌, ◌-ℤ◌}

-- z mod m: the remainder from 0 to m - 1, also of a negative z
abbrev pub mod_z : ℤ → ℕ → ℕ
mod_z (pos n) m = n % m
mod_z (negsuc n) m = m - suc (n % m)

-- the number from -half to half - 1 that differs from z by a multiple of 2 * half
unfoldable pub wrap_to : ℕ → ℤ → ℤ
wrap_to half z = pos (mod_z (z +ℤ pos half) (2 * half)) -ℤ pos half

-- the number from -2^31 to 2^31 - 1 that differs from z by a multiple of 2^32: z as an i32
unfoldable pub wrap32 : ℤ → ℤ
wrap32 z = wrap_to (2 ^ 31) z

-- the number from -2^15 to 2^15 - 1 that differs from z by a multiple of 2^16: z as an i16
unfoldable pub wrap16 : ℤ → ℤ
wrap16 z = wrap_to (2 ^ 15) z

-- the number from -2^7 to 2^7 - 1 that differs from z by a multiple of 2^8: z as an i8
unfoldable pub wrap8 : ℤ → ℤ
wrap8 z = wrap_to (2 ^ 7) z
