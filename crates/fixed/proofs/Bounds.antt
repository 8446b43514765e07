-- Ranges: `Between m n z` says that z is from -m to n.
use mathlib.Core.Path.{◌≡◌, refl}
use Prim.Native.Nat.{ℕ, ◌+◌, ◌^◌, ◌≤◌}
use native.Mathlib.Omega.{arith}
use lib.IntN.{ℤ, pos, negsuc, neg_ℤ, ◌+ℤ◌, ◌-ℤ◌, ◌*ℤ◌}
use lib.Signed.{lt_z}
use mir.Syntax.{w16, w32}
use mir.Val.{SFits}
use Rattle.fixed.specs.Range.{clamp, sat16}
use Rattle.fixed.specs.Shift.{shr}
use Rattle.fixed.proofs.Lin.{P, N, add-lin, sub-lin-Z, neg-lin, sfits-lin, sfits-of-lin, lt-true, lt-false}
use Rattle.fixed.proofs.Fit.{size-mul}
use Rattle.fixed.proofs.Floors.{floor-lin}
use Rattle.fixed.proofs.Iters.{either-all}

-- -m ≤ z ≤ n
pub record Between (m n : ℕ) (z : ℤ) : Type 0 where
  pub low : N z ≤ m
  pub high : P z ≤ n

-- the form that leaves out which of P z and N z is 0 is enough
pub between : (m n : ℕ) (z : ℤ) → N z ≤ m + P z → P z ≤ n + N z → Between m n z
between m n (pos k) h l = omega arith
between m n (negsuc k) h l = omega arith

-- ---- from a width, and to one
pub of-fits16 : {z : ℤ} → SFits w16 z → Between 32768 32767 z
of-fits16 f = let l = sfits-lin f in omega arith

pub of-fits32 : {z : ℤ} → SFits w32 z → Between 2147483648 2147483647 z
of-fits32 f = let l = sfits-lin f in omega arith

pub to-fits32 : (m n : ℕ) {z : ℤ} → Between m n z → m ≤ 2147483648 → n ≤ 2147483647 → SFits w32 z
to-fits32 m n {z} b h k = sfits-of-lin w32 z (omega arith) (omega arith)

pub to-fits16 : (m n : ℕ) {z : ℤ} → Between m n z → m ≤ 32768 → n ≤ 32767 → SFits w16 z
to-fits16 m n {z} b h k = sfits-of-lin w16 z (omega arith) (omega arith)

-- ---- sums, differences, products, shifts
pub add-between : (a b c d : ℕ) (x y : ℤ) → Between a b x → Between c d y → Between (a + c) (b + d) (x +ℤ y)
add-between a b c d x y h k = let e = add-lin x y in between (a + c) (b + d) (x +ℤ y) (omega arith) (omega arith)

pub sub-between : (a b c d : ℕ) (x y : ℤ) → Between a b x → Between c d y → Between (a + d) (b + c) (x -ℤ y)
sub-between a b c d x y h k = let e = sub-lin-Z x y in between (a + d) (b + c) (x -ℤ y) (omega arith) (omega arith)

-- |a * b| ≤ 2^46, for 32 by 16 bits
pub product-between : (a b : ℤ) → SFits w32 a → SFits w16 b → Between (2 ^ 46) (2 ^ 46) (a *ℤ b)
product-between a b f g = let e = size-mul w32 w16 a b f g in omega arith

-- its shift by 16: |a * b >> 16| ≤ 2^30
pub smulwb-between : (a b : ℤ) → SFits w32 a → SFits w16 b → Between (2 ^ 30) (2 ^ 30) (shr (a *ℤ b) 16)
smulwb-between a b f g =
    let e = size-mul w32 w16 a b f g in
    let l = floor-lin (a *ℤ b) 16 in
    between (2 ^ 30) (2 ^ 30) (shr (a *ℤ b) 16) (omega arith) (omega arith)

-- ---- clamping gives the range, and keeps what is in it
pub clamp-between : (m n : ℕ) (z : ℤ) → Between m n (clamp (neg_ℤ (pos m)) (pos n) z)
unfolding clamp
clamp-between m n z =
    let g = neg-lin (pos m) in
    either-all (Between m n) (lt_z (pos n) z) _ _ (λ e. omega arith)
    (λ e. either-all (Between m n) (lt_z z (neg_ℤ (pos m))) _ _ (λ d. between m n (neg_ℤ (pos m)) (omega arith) (omega arith))
    (λ d. let l = lt-false (pos n) z e in let k = lt-false z (neg_ℤ (pos m)) d in between m n z (omega arith) (omega arith)))

pub clamp-id : (m n : ℕ) (z : ℤ) → Between m n z → clamp (neg_ℤ (pos m)) (pos n) z ≡ z
unfolding clamp
clamp-id m n z b =
    let g = neg-lin (pos m) in
    either-all (λ (y : ℤ). y ≡ z) (lt_z (pos n) z) _ _ (λ e. let l = lt-true (pos n) z e in absurd (omega arith))
    (λ e. either-all (λ (y : ℤ). y ≡ z) (lt_z z (neg_ℤ (pos m))) _ _ (λ d. let l = lt-true z (neg_ℤ (pos m)) d in absurd (omega arith)) (λ d. refl))

pub sat16-between : (z : ℤ) → Between 32768 32767 (sat16 z)
unfolding sat16
sat16-between z = clamp-between 32768 32767 z

-- the residual, held to its range (docs/RULES.md, "One sample")
pub residual-between : (z : ℤ) → Between 31744 30720 (clamp (negsuc 31743) (pos 30720) z)
residual-between z = clamp-between 31744 30720 z

-- a level's number: from a residual in its range and an offset from 0 to 256
pub level-between : (r o : ℤ) → Between 31744 30720 r → Between 0 256 o → Between 32 30 (shr (r -ℤ o) 10)
level-between r o h k =
    let d = sub-lin-Z r o in
    let l = floor-lin (r -ℤ o) 10 in
    between 32 30 (shr (r -ℤ o) 10) (omega arith) (omega arith)
