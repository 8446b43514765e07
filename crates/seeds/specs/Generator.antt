-- The linear congruential generator of the dither: docs/RULES.md, "One sample".
-- Assumes nothing.
use Rattle.std.specs.Prelude.{ℤ, pos, ◌+ℤ◌, ◌*ℤ◌}
use Rattle.fixed.specs.Wrap.{wrap32}

-- 196314165 * seed + 907633515, modulo 2^32, as an i32
unfoldable pub rand : ℤ → ℤ
rand seed = wrap32 (seed *ℤ pos 196314165 +ℤ pos 907633515)
