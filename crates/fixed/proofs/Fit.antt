-- What fits a width, for `search (needs, fit)`, and how a signed local is read back.
use mathlib.Core.Path.{◌≡◌, sym, subst}
use Prim.Native.Nat.{ℕ, ◌+◌, ◌*◌, ◌/◌, ◌^◌, ◌≤◌, ◌<◌}
use native.Mathlib.Omega.{arith}
use native.Mathlib.Nat.{div-lt_iff_lt-mul, mul-le-mul_right}
use lib.IntN.{ℤ, pos, negsuc, neg_ℤ, ◌+ℤ◌, ◌-ℤ◌, ◌*ℤ◌}
use lib.Dec.{T, ltb, lit<}
use lib.Signed.{shr_z, mag, mag_shr, lt_z, lt_z_no, non_neg, yes_non_neg}
use mathlib.Core.Bool.{Bool, false, not}
use mir.Syntax.{Width, w8, w16, w32, w64}
use mir.Val.{SFits, to_z, of_z, hbits}
use mir.ValLaws.{sfits_le}
use mir.Facts.{sfits_widen, sfits_lit, to_z-of_z}
use Rattle.fixed.proofs.Lin.{P, N, add-lin, sub-lin-Z, neg-lin, mul-lin, abs-lin, sfits-lin, sfits-of-lin}
use Rattle.fixed.proofs.Wraps.{wrap32-fits, wrap16-fits, wrap8-fits}

-- ---- a narrow number in a wider type
pub fit8-32 : {z : ℤ} → SFits w8 z → SFits w32 z
fit8-32 = sfits_widen tt

pub fit16-32 : {z : ℤ} → SFits w16 z → SFits w32 z
fit16-32 = sfits_widen tt

pub fit16-64 : {z : ℤ} → SFits w16 z → SFits w64 z
fit16-64 = sfits_widen tt

pub fit32-64 : {z : ℤ} → SFits w32 z → SFits w64 z
fit32-64 = sfits_widen tt

-- ---- sums, differences and the negation of 32-bit numbers in 64 bits
pub fit-add : (a b : ℤ) → SFits w32 a → SFits w32 b → SFits w64 (a +ℤ b)
fit-add a b f g =
    let l = sfits-lin f in let m = sfits-lin g in let e = add-lin a b in sfits-of-lin w64 (a +ℤ b) (omega arith) (omega arith)

pub fit-sub : (a b : ℤ) → SFits w32 a → SFits w32 b → SFits w64 (a -ℤ b)
fit-sub a b f g =
    let l = sfits-lin f in let m = sfits-lin g in let e = sub-lin-Z a b in sfits-of-lin w64 (a -ℤ b) (omega arith) (omega arith)

pub fit-neg : (a : ℤ) → SFits w32 a → SFits w64 (neg_ℤ a)
fit-neg a f = let l = sfits-lin f in let e = neg-lin a in sfits-of-lin w64 (neg_ℤ a) (omega arith) (omega arith)

-- ---- products: the sizes multiply
-- |a * b| is at most 2 to the sum of the two widths less their sign bits
pub size-mul : (u v : Width) (a b : ℤ) → SFits u a → SFits v b → P (a *ℤ b) + N (a *ℤ b) ≤ 2 ^ hbits u * 2 ^ hbits v
size-mul u v a b f g =
    mul-lin (2 ^ hbits u) (2 ^ hbits v) a b
    (abs-lin a (2 ^ hbits u) (omega (arith, sfits-lin f)) (omega (arith, sfits-lin f)))
    (abs-lin b (2 ^ hbits v) (omega (arith, sfits-lin g)) (omega (arith, sfits-lin g)))

pub fit-mul : (a b : ℤ) → SFits w32 a → SFits w32 b → SFits w64 (a *ℤ b)
fit-mul a b f g = let e = size-mul w32 w32 a b f g in sfits-of-lin w64 (a *ℤ b) (omega arith) (omega arith)

pub fit-mul16 : (a b : ℤ) → SFits w16 a → SFits w16 b → SFits w32 (a *ℤ b)
fit-mul16 a b f g = let e = size-mul w16 w16 a b f g in sfits-of-lin w32 (a *ℤ b) (omega arith) (omega arith)

-- ---- shifts to the right
pub fit-shr : (w : Width) (z : ℤ) (m : ℕ) → SFits w z → SFits w (shr_z z m)
fit-shr w z m f = sfits_le (mag_shr z m) f

-- a number of at most m times 2^31, shifted down by m
fit-down : (m : ℕ) (z : ℤ) → 0 < m → P z < 2 ^ 31 * m → N z ≤ 2 ^ 31 * m → SFits w32 (shr_z z m)
fit-down m (pos n) p h k = record { sfits = (div-lt_iff_lt-mul p).1 h }
fit-down m (negsuc n) p h k = record { sfits = (div-lt_iff_lt-mul p).1 k }

-- |a * b| is at most 2^46, and 2^62
pub fit-smulwb : (a b : ℤ) → SFits w32 a → SFits w16 b → SFits w32 (shr_z (a *ℤ b) (2 ^ 16))
fit-smulwb a b f g = let e = size-mul w32 w16 a b f g in fit-down (2 ^ 16) (a *ℤ b) (lit< tt) (omega arith) (omega arith)

pub fit-smmul : (a b : ℤ) → SFits w32 a → SFits w32 b → SFits w32 (shr_z (a *ℤ b) (2 ^ 32))
fit-smmul a b f g = let e = size-mul w32 w32 a b f g in fit-down (2 ^ 32) (a *ℤ b) (lit< tt) (omega arith) (omega arith)

-- the high half of a word fits 16 bits
pub fit-high : (z : ℤ) → SFits w32 z → SFits w16 (shr_z z (2 ^ 16))
fit-high (pos n) f = let l : n < 2 ^ 31 = f.sfits in record { sfits = omega arith }
fit-high (negsuc n) f = let l : n < 2 ^ 31 = f.sfits in record { sfits = omega arith }

-- a half of v or less, and 1 more
pub fit-half : (v : ℤ) (m : ℕ) → 2 ≤ m → SFits w32 v → SFits w32 (shr_z v m +ℤ pos 1)
fit-half v m h f = let e = add-lin (shr_z v m) (pos 1) in let l = halved v f in sfits-of-lin w32 (shr_z v m +ℤ pos 1) (omega arith) (omega arith)
  where
    small : (n : ℕ) → n < 2 ^ 31 → n / m < 2 ^ 30
    small n k = let p : 0 < m = omega arith in (div-lt_iff_lt-mul p).1 (omega (arith, mul-le-mul_right (2 ^ 30) h))

    halved : (z : ℤ) → SFits w32 z → (P (shr_z z m) < 2 ^ 30) × (N (shr_z z m) ≤ 2 ^ 30)
    halved (pos n) g = omega (arith, small n g.sfits)
    halved (negsuc n) g = omega (arith, small n g.sfits)

pub ruleset fit = (fit-mul16, fit-smmul, fit16-32, fit16-64, fit32-64, fit-add, fit-sub, fit-neg, fit-smulwb, fit-mul, fit-shr, wrap32-fits, wrap16-fits, wrap8-fits)

-- ---- what is written to a local and read back
pub read : {w : Width} {z : ℤ} → SFits w z → to_z w (of_z w z) ≡ z
read = to_z-of_z

-- the same from a bound: of an element, or of a call's result
pub back : (w : Width) (z : ℤ) → mag z < 2 ^ hbits w → to_z w (of_z w z) ≡ z
back w z h = to_z-of_z (record { sfits = h })

-- of a call's result: `got32 c.f.result c.f.ok`
pub got32 : (z : ℤ) → mag z < 2 ^ 31 → to_z w32 (of_z w32 z) ≡ z
got32 = back w32

pub got16 : (z : ℤ) → mag z < 2 ^ 15 → to_z w16 (of_z w16 z) ≡ z
got16 = back w16

-- of an i32 or an i16 that is cast to i64
pub wide32 : {z : ℤ} → SFits w32 z → (to_z w32 (of_z w32 z) ≡ z) × (to_z w64 (of_z w64 z) ≡ z)
wide32 f = (to_z-of_z f, to_z-of_z (fit32-64 f))

pub wide16 : {z : ℤ} → SFits w16 z → (to_z w16 (of_z w16 z) ≡ z) × (to_z w64 (of_z w64 z) ≡ z)
wide16 f = (to_z-of_z f, to_z-of_z (fit16-64 f))

-- ---- a signed test: what it says of the two numbers
pub test32 : {a b : ℤ} {t : Bool} → SFits w32 a → SFits w32 b → lt_z (to_z w32 (of_z w32 a)) (to_z w32 (of_z w32 b)) ≡ t → lt_z a b ≡ t
test32 f g e = cc (to_z-of_z f, to_z-of_z g)

-- a number that is not below 0
pub not-below : (z : ℤ) → lt_z z (pos 0) ≡ false → T (non_neg z)
not-below z e = yes_non_neg (lt_z_no {a = z} {b = pos 0} (subst (λ (t : Bool). T (not t)) (sym e) tt))

-- a literal: `lit32 (pos 80) tt`
pub lit32 : (z : ℤ) → T (ltb (mag z) (2 ^ 31)) → SFits w32 z
lit32 z t = sfits_lit t
