-- The generator in 16-bit halves: its words are narrow for every seed, and they give the step.
-- Assumes nothing.
use mathlib.Core.Path.{◌≡◌, refl, ap, ◌∙◌}
use Prim.Native.Nat.{ℕ, ◌+◌, ◌*◌, ◌/◌, ◌%◌, ◌^◌, ◌<◌}
use native.Mathlib.Omega.{arith}
use native.Mathlib.Nat.{mod-eq_of_lt, lt_of_le_of_lt}
use lib.IntN.{ℤ, pos, negsuc, nat_abs, ◌+ℤ◌, ◌*ℤ◌}
use lib.Dec.{T, lit<}
use lib.Signed.{non_neg}
use lib.Bits.{bit_and, bit_or, and_le_r, and_mask, and_shifted, or_disjoint}
use mir.Syntax.{w32}
use mir.Val.{Fits, SFits, to_z, of_z}
use mir.Facts.{to_z_pos}
use Rattle.fixed.specs.Wrap.{mod_z, wrap32}
use Rattle.fixed.specs.Shift.{shr}
use Rattle.fixed.proofs.Lin.{P, N, add-lin, mod-lin}
use Rattle.fixed.proofs.Wraps.{wrap32-cong, scale-lin, to_z-wraps}
use Rattle.fixed.proofs.Floors.{floor-lin}
use Rattle.seeds.specs.Generator.{rand}
use Rattle.seeds.specs.Halves.{low_half, high_half, low_word, high_word, joined, Narrow}

-- every factor has 16 bits and every word on the way 32, for every seed
pub narrow : (seed : ℤ) → Narrow (low_half seed) (high_half seed)
unfolding low_half high_half low_word high_word
narrow seed =
    let l = mod-lin seed (2 ^ 16) (lit< tt) in
    let h = mod-lin (shr seed 16) (2 ^ 16) (lit< tt) in
    record {
      low = l;
      high = h;
      multiplier-low = lit< tt;
      multiplier-high = lit< tt;
      low_product = omega arith;
      low-word = omega arith;
      cross-low = omega arith;
      cross-high = omega arith;
      cross = omega arith;
      high-word = omega arith;
      word = omega arith;
    }

-- the words give the generator's step: with seed = 2^32 t + 65536 h + l, what is dropped is 2^32 times
-- 196314165 t + 2995 h and what the high word has above its low half
pub in_halves : (seed : ℤ) → rand seed ≡ joined (high_word (low_half seed) (high_half seed) % 2 ^ 16) (low_word (low_half seed) % 2 ^ 16)
unfolding rand joined low_half high_half low_word high_word
in_halves seed =
    let t = shr (shr seed 16) 16 in
    let h = high_half seed in
    let high = high_word (low_half seed) h in
    let low = low_word (low_half seed) in
    let product = seed *ℤ pos 196314165 in
    wrap32-cong (N t * 196314165) (P t * 196314165 + h * 2995 + high / 2 ^ 16) (product +ℤ pos 907633515) (pos (high % 2 ^ 16 * 2 ^ 16 + low % 2 ^ 16))
    (omega (arith, floor-lin seed 16, floor-lin (shr seed 16) 16, scale-lin 196314165 seed, add-lin product (pos 907633515)))

-- ---- the machine's words
-- the low 16 bits of a word
pub mask : (u : ℕ) → bit_and u 65535 ≡ u % 2 ^ 16
mask u = and_mask u 16

-- what a mask leaves is no more than the mask
pub under : (u m k : ℕ) → m < k → bit_and u m < k
under u m k h = lt_of_le_of_lt (and_le_r u m) h

-- so a mask that ends below the sign's bit leaves a number without sign
unsigned : (u m : ℕ) → m < 2 ^ 31 → to_z w32 (bit_and u m) ≡ pos (bit_and u m)
unsigned u m h = to_z_pos w32 (under u m (2 ^ 31) h)

pub unsigned-no-sign : (u m : ℕ) → m < 2 ^ 31 → T (non_neg (to_z w32 (bit_and u m)))
unsigned-no-sign u m h = rw (unsigned u m h) tt

pub unsigned-fits : (u m : ℕ) → m < 2 ^ 31 → Fits w32 (nat_abs (to_z w32 (bit_and u m)))
unsigned-fits u m h = rw (unsigned u m h) (record { fits = under u m (2 ^ 32) (omega arith) })

pub masked : (u : ℕ) → nat_abs (to_z w32 (bit_and u 65535)) ≡ u % 2 ^ 16
masked u = ap nat_abs (unsigned u 65535 (lit< tt)) ∙ mask u

-- the low 16 bits of a signed word are its remainder by 2^16
pub half-bits : {z : ℤ} → SFits w32 z → of_z w32 z % 2 ^ 16 ≡ mod_z z (2 ^ 16)
half-bits {z = pos n} f = refl
half-bits {z = negsuc n} f = let b : n < 2 ^ 31 = f.sfits in omega arith

-- the high half shifted up and the low half have no bit in common
pub put-together : (u v : ℕ) → u < 2 ^ 16 → v < 2 ^ 16 → to_z w32 (bit_or (u * 2 ^ 16 % 2 ^ 32) v) ≡ joined u v
unfolding joined wrap32
put-together u v f g =
    ap (λ (x : ℕ). to_z w32 (bit_or x v)) (mod-eq_of_lt {n = u * 2 ^ 16} (omega arith))
    ∙ ap (to_z w32) (or_disjoint (u * 2 ^ 16) v (and_shifted u 16 v g))
    ∙ to_z-wraps w32 (2 ^ 31) (u * 2 ^ 16 + v) refl refl (lit< tt) (omega arith)
