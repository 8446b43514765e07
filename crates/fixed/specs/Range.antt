-- Numbers held to a range.
-- Assumes nothing.
use Rattle.std.specs.Prelude.{ℤ, pos, negsuc, neg_ℤ}
use Rattle.std.specs.Int.Signed.{lt_z}
use Rattle.fixed.specs.Wrap.{wrap32}
use Rattle.fixed.specs.Iter.{either}

-- hi above it, lo below it, else z
unfoldable pub clamp : ℤ → ℤ → ℤ → ℤ
clamp lo hi z = either (lt_z hi z) hi (either (lt_z z lo) lo z)

-- z held to the range of an i16, -32768 to 32767
unfoldable pub sat16 : ℤ → ℤ
sat16 z = clamp (negsuc 32767) (pos 32767) z

-- the smaller of the two
unfoldable pub min_z : ℤ → ℤ → ℤ
min_z a b = either (lt_z a b) a b

-- |z| as the machine has it: the negation of -2^31 wraps to itself
unfoldable pub abs32 : ℤ → ℤ
abs32 z = either (lt_z (pos 0) z) z (wrap32 (neg_ℤ z))
