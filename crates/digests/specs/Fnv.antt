-- FNV-1a, a word or a byte at a time. Assumes nothing.
use Rattle.std.specs.Prelude.{ℕ, ◌*◌, ◌%◌, ◌^◌, List, [], ◌∷◌, ℤ, bit_xor}
use Rattle.std.specs.Int.{w32, cast_unsigned, to_le_bytes}

-- the sum of 32 bits with a word more
abbrev pub fnv32_word : ℕ → ℤ → ℕ
fnv32_word sum x = bit_xor sum (cast_unsigned w32 x) * 16777619 % 2 ^ 32

-- the sum of 64 bits with a byte more
abbrev pub fnv64_byte : ℕ → ℕ → ℕ
fnv64_byte sum b = bit_xor sum b * 1099511628211 % 2 ^ 64

-- .. and with these bytes more, from the first on
abbrev pub fnv64_bytes : ℕ → List ℕ → ℕ
fnv64_bytes sum [] = sum
fnv64_bytes sum (b ∷ bs) = fnv64_bytes (fnv64_byte sum b) bs

-- with the four bytes of a word more, the lowest first
abbrev pub fnv64_word : ℕ → ℤ → ℕ
fnv64_word sum x = fnv64_bytes sum (to_le_bytes w32 (cast_unsigned w32 x))
