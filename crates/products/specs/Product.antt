-- The products of SILK's macros. B is the low half of a word, T its high half, W the whole word; SMLA adds to an accumulator of 32 bits.
-- Assumes nothing.
use Rattle.std.specs.Prelude.{ℤ, ◌+ℤ◌, ◌*ℤ◌}
use Rattle.fixed.specs.Wrap.{wrap32, wrap16}
use Rattle.fixed.specs.Shift.{shr}

-- low half by low half
unfoldable pub smulbb : ℤ → ℤ → ℤ
smulbb a b = wrap16 a *ℤ wrap16 b

-- .. added to acc
unfoldable pub smlabb : ℤ → ℤ → ℤ → ℤ
smlabb acc a b = wrap32 (acc +ℤ smulbb a b)

-- (a * b) >> 16, where b is a 16-bit word
unfoldable pub smulwb : ℤ → ℤ → ℤ
smulwb a b = shr (a *ℤ b) 16

-- .. added to acc
unfoldable pub smlawb : ℤ → ℤ → ℤ → ℤ
smlawb acc a b = wrap32 (acc +ℤ smulwb a b)

-- (a * (packed >> 16)) >> 16: by the high half of a packed word
unfoldable pub smulwt : ℤ → ℤ → ℤ
smulwt a packed = smulwb a (shr packed 16)

-- .. added to acc
unfoldable pub smlawt : ℤ → ℤ → ℤ → ℤ
smlawt acc a packed = wrap32 (acc +ℤ smulwt a packed)

-- (a * b) >> 16, of which the low 32 bits are kept
unfoldable pub smulww : ℤ → ℤ → ℤ
smulww a b = wrap32 (shr (a *ℤ b) 16)

-- .. added to acc
unfoldable pub smlaww : ℤ → ℤ → ℤ → ℤ
smlaww acc a b = wrap32 (acc +ℤ smulww a b)

-- (a * b) >> 32: the upper half of the product
unfoldable pub smmul : ℤ → ℤ → ℤ
smmul a b = shr (a *ℤ b) 32
