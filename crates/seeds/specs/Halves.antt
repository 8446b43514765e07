-- The words by which `rand` is worked out on a core whose products are of 32 bits. With the seed's halves l and h and
-- 196314165 = 65536 * 2995 + 33845, the product is 33845 l + 65536 (2995 l + 33845 h), modulo 2^32.
-- Assumes nothing.
use Rattle.std.specs.Prelude.{ℕ, ◌+◌, ◌*◌, ◌/◌, ◌%◌, ◌^◌, ◌<◌, ℤ, pos}
use Rattle.fixed.specs.Wrap.{mod_z, wrap32}
use Rattle.fixed.specs.Shift.{shr}

-- bits 0 to 15 of a seed, without sign
unfoldable pub low_half : ℤ → ℕ
low_half seed = mod_z seed (2 ^ 16)

-- bits 16 to 31 of a seed, without sign
unfoldable pub high_half : ℤ → ℕ
high_half seed = mod_z (shr seed 16) (2 ^ 16)

-- the low product and the increment
unfoldable pub low_word : ℕ → ℕ
low_word l = l * 33845 + 907633515

-- the cross products, and what the low word carries
unfoldable pub high_word : ℕ → ℕ → ℕ
high_word l h = l * 2995 + h * 33845 + low_word l / 2 ^ 16

-- two halves as one word, with its sign
unfoldable pub joined : ℕ → ℕ → ℤ
joined high low = wrap32 (pos (high * 2 ^ 16 + low))

-- what the core needs of the halves: every factor has 16 bits, and every product and sum on the way 32
pub record Narrow (l h : ℕ) : Type 0 where
  pub low : l < 2 ^ 16
  pub high : h < 2 ^ 16
  pub multiplier-low : 33845 < 2 ^ 16
  pub multiplier-high : 2995 < 2 ^ 16
  pub low_product : l * 33845 < 2 ^ 32
  pub low-word : low_word l < 2 ^ 32
  pub cross-low : l * 2995 < 2 ^ 32
  pub cross-high : h * 33845 < 2 ^ 32
  pub cross : l * 2995 + h * 33845 < 2 ^ 32
  pub high-word : high_word l h < 2 ^ 32
  pub word : high_word l h % 2 ^ 16 * 2 ^ 16 + low_word l % 2 ^ 16 < 2 ^ 32
