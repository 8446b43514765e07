-- Shifts on whole numbers, and what is read off the bits of a word.
-- Assumes nothing.
use Rattle.std.specs.Prelude.{ℕ, ◌-◌, ◌%◌, ◌^◌, ℤ, pos, nat_abs, ◌+ℤ◌, ◌*ℤ◌}
use Rattle.std.specs.Int.Signed.{shr_z, lt_z}
use Rattle.std.specs.Int.Bits.{bit_or}
use Rattle.std.specs.Int.Count.{count_leading_zeros}
use Rattle.fixed.specs.Wrap.{mod_z, wrap32}
use Rattle.fixed.specs.Iter.{either}

-- z / 2^s, rounded towards minus infinity
unfoldable pub shr : ℤ → ℕ → ℤ
shr z s = shr_z z (2 ^ s)

-- a shift left that keeps the low 32 bits; a machine reads its count modulo 32
unfoldable pub shl32 : ℤ → ℕ → ℤ
shl32 z s = wrap32 (z *ℤ pos (2 ^ (s % 32)))

-- a shift right that keeps the sign; a machine reads its count modulo 32
unfoldable pub shr32 : ℤ → ℕ → ℤ
shr32 z s = shr z (s % 32)

-- the rounded shift by s (docs/RULES.md, "Arithmetic"): ((z >> (s - 1)) + 1) >> 1
unfoldable pub rround : ℤ → ℕ → ℤ
rround z s = shr (shr z (s - 1) +ℤ pos 1) 1

-- the number whose 32 bits are those of a or of b
unfoldable pub or32 : ℤ → ℤ → ℤ
or32 a b = wrap32 (pos (bit_or (mod_z a (2 ^ 32)) (mod_z b (2 ^ 32))))

-- the leading zeros of the 32 bits of z: none where z is negative
unfoldable pub clz32 : ℤ → ℕ
clz32 z = either (lt_z z (pos 0)) 0 (count_leading_zeros 32 (nat_abs z))
