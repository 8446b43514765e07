-- What the generator's sign does to a residual before the choice and to a level after it, and which pulse a level is:
-- docs/RULES.md, "One sample", and silk_noise_shape_quantizer_del_dec of NSQ_del_dec.rs.
-- Assumes nothing.
use Rattle.std.specs.Prelude.{ℤ, pos, negsuc, neg_ℤ, ◌+ℤ◌}
use Rattle.std.specs.Int.Signed.{lt_z}
use Rattle.fixed.specs.Wrap.{wrap32}
use Rattle.fixed.specs.Range.{clamp}
use Rattle.fixed.specs.Shift.{shl32, rround}
use Rattle.fixed.specs.Iter.{either}

-- z, negated where the seed is negative
unfoldable pub turned : ℤ → ℤ → ℤ
turned seed z = either (lt_z seed (pos 0)) (wrap32 (neg_ℤ z)) z

-- the residual: first its sign, then the range -31744 to 30720
unfoldable pub signed_residual : ℤ → ℤ → ℤ
signed_residual seed r = clamp (negsuc 31743) (pos 30720) (turned seed r)

-- the excitation (Q14) of a level (Q10): `exc_Q14`
unfoldable pub signed_excitation : ℤ → ℤ → ℤ
signed_excitation seed level = turned seed (shl32 level 4)

-- the pulse of a level: ((level >> 9) + 1) >> 1
unfoldable pub pulse_of : ℤ → ℤ
pulse_of level = rround level 10

-- the seed after the pulse of the kept level
unfoldable pub seed_with : ℤ → ℤ → ℤ
seed_with seed level = wrap32 (seed +ℤ pulse_of level)
