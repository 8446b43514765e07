-- The inverse and the quotient of `Inlines.rs`, line by line under the Rust's names. Both bring the divisor up to 30 bits
-- or more, divide by its upper half, correct once by what the first inverse misses, and shift to the Q asked for.
-- Counts are natural numbers: the Rust's `lshift` is `down - up` here, so its sign is a test of the two.
-- Assumes nothing.
use Rattle.std.specs.Prelude.{ℕ, ◌+◌, ◌-◌, ℤ, pos, negsuc, ◌-ℤ◌, ltb, leb}
use Rattle.std.specs.Int.Signed.{quot_z}
use Rattle.fixed.specs.Wrap.{wrap32, wrap16}
use Rattle.fixed.specs.Shift.{shr, shl32, shr32, clz32}
use Rattle.fixed.specs.Range.{clamp, abs32}
use Rattle.products.specs.Product.{smulwb, smlawb, smlaww, smmul}
use Rattle.fixed.specs.Iter.{either}

-- a_headrm, b_headrm: silk_CLZ32(if x > 0 { x } else { -x }) - 1, how far |x| can go up and stay below 2^31
unfoldable pub headrm : ℤ → ℕ
headrm x = clz32 (abs32 x) - 1

-- a32_nrm, b32_nrm: x << headrm
unfoldable pub nrm : ℤ → ℤ
nrm x = shl32 x (headrm x)

-- b32_inv: (0x7fffffff >> 2) / (b32_nrm >> 16), of about 14 bits
unfoldable pub b32_inv : ℤ → ℤ
b32_inv b32_nrm = quot_z (shr (pos 2147483647) 2) (shr b32_nrm 16)

-- silk_LSHIFT_SAT32: z << s after z is held to what this leaves in 32 bits. The Rust's branch for a lower bound above the
-- upper one is left out: MIN >> s is never above MAX >> s.
unfoldable pub lshift_SAT32 : ℤ → ℕ → ℤ
lshift_SAT32 z s = shl32 (clamp (shr32 (negsuc 2147483647) s) (shr32 (pos 2147483647) s) z) s

-- the result by lshift = down - up: up with saturation where lshift ≤ 0, down where lshift < 32, else 0.
-- silk_DIV32_varQ tests lshift < 0: at 0 both ways give the result itself (proofs/Laws.antt, `by-none`).
unfoldable pub shifted : ℤ → ℕ → ℕ → ℤ
shifted result up down =
    either (leb down up) (lshift_SAT32 result (up - down)) (either (ltb (down - up) 32) (shr32 result (down - up)) (pos 0))

-- err_Q32: ((1 << 29) - (b32_nrm * (b32_inv as i16) >> 16)) << 3
unfoldable pub err_Q32 : ℤ → ℤ → ℤ
err_Q32 b32_nrm inv = shl32 (wrap32 (pos 536870912 -ℤ smulwb b32_nrm (wrap16 inv))) 3

-- (b32_inv << 16) + (err_Q32 * b32_inv >> 16): the inverse of the normalised number, with 61 bits below the point.
-- The Rust adds in 64 bits and then keeps 32: the same (proofs/Laws.antt, `refined-wide`).
unfoldable pub refined : ℤ → ℤ → ℤ
refined b32_nrm inv = smlaww (shl32 inv 16) (err_Q32 b32_nrm inv) inv

-- an approximation of 2^Qres / b32; lshift = 61 - b_headrm - Qres
unfoldable pub silk_INVERSE32_varQ : ℤ → ℕ → ℤ
silk_INVERSE32_varQ b32 «Qres» = shifted (refined (nrm b32) (b32_inv (nrm b32))) (headrm b32 + «Qres») 61

-- result, the first one: a32_nrm * (b32_inv as i16) >> 16
unfoldable pub result_1 : ℤ → ℤ → ℤ
result_1 a32_nrm inv = smulwb a32_nrm (wrap16 inv)

-- a32_nrm - ((b32_nrm * result >> 32) << 3): what the first result leaves of a32_nrm
unfoldable pub rest : ℤ → ℤ → ℤ → ℤ
rest a32_nrm b32_nrm result = wrap32 (a32_nrm -ℤ shl32 (smmul b32_nrm result) 3)

-- result + (rest * (b32_inv as i16) >> 16)
unfoldable pub result_2 : ℤ → ℤ → ℤ → ℤ
result_2 a32_nrm b32_nrm inv =
    smlawb (result_1 a32_nrm inv) (rest a32_nrm b32_nrm (result_1 a32_nrm inv)) (wrap16 inv)

-- an approximation of 2^Qres * a32 / b32; lshift = 29 + a_headrm - b_headrm - Qres
unfoldable pub silk_DIV32_varQ : ℤ → ℤ → ℕ → ℤ
silk_DIV32_varQ a32 b32 «Qres» =
    shifted (result_2 (nrm a32) (nrm b32) (b32_inv (nrm b32))) (headrm b32 + «Qres») (29 + headrm a32)
