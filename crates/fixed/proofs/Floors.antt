-- The laws of the shift right, which rounds towards minus infinity, and of the rounded shift.
use mathlib.Core.Path.{◌≡◌, sym, ap, ◌∙◌}
use Prim.Native.Nat.{ℕ, ◌+◌, ◌-◌, ◌*◌, ◌^◌, ◌<◌}
use native.Mathlib.Omega.{arith}
use native.Mathlib.Nat.{eq_of_mul-eq-mul_left, mul-le-mul_left}
use native.Mathlib.Numerals.{add-one}
use lib.IntN.{ℤ, pos, negsuc, ◌+ℤ◌}
use lib.Pow.{pow_pos, shr-shr}
use lib.Signed.{shr_z}
use Rattle.fixed.specs.Wrap.{mod_z}
use Rattle.fixed.specs.Shift.{shr, rround}
use Rattle.fixed.proofs.Lin.{P, N, eq_of, add-lin, shr-lin, mod-lin}
use Rattle.fixed.proofs.Wraps.{near}

-- z is 2^s times shr z s and a remainder below 2^s
pub floor-lin : (z : ℤ) (s : ℕ) → (P z + 2 ^ s * N (shr z s) ≡ 2 ^ s * P (shr z s) + (N z + mod_z z (2 ^ s))) × (mod_z z (2 ^ s) < 2 ^ s)
unfolding shr
floor-lin z s = (shr-lin z (2 ^ s) (pow_pos s), mod-lin z (2 ^ s) (pow_pos s))

-- and no other number is
pub floor-is : (m r : ℕ) (y z : ℤ) → r < m → P z + m * N y ≡ m * P y + (N z + r) → shr_z z m ≡ y
floor-is m r y z h e =
    let p : 0 < m = omega arith in
    let s = shr_z z m in
    let l = shr-lin z m p in
    let q = near m r (mod_z z m) (P y + N s) (P s + N y) h (mod-lin z m p) (omega arith) in
    eq_of s y (eq_of_mul-eq-mul_left m p _ _ (omega arith))

-- two shifts are one
pub shr-shr-add : (z : ℤ) (i j : ℕ) → shr (shr z i) j ≡ shr z (i + j)
unfolding shr
shr-shr-add (pos n) i j = ap pos (shr-shr n i j)
shr-shr-add (negsuc n) i j = ap negsuc (shr-shr n i j)

-- the rounded shift by s + 1 is the nearest whole number to z / 2^(s + 1), and the upper one in the middle
pub rround-nearest : (z : ℤ) (s : ℕ) → rround z (s + 1) ≡ shr (z +ℤ pos (2 ^ s)) (s + 1)
unfolding rround shr
rround-nearest z s =
    let q = shr_z z (2 ^ s) in
    let h = shr_z (q +ℤ pos 1) 2 in
    let k : (s + 1) - 1 ≡ s = omega arith in
    let t : 2 ^ (s + 1) ≡ 2 * 2 ^ s = rw add-one (omega arith) in
    let e = shr-lin z (2 ^ s) (pow_pos s) in
    let g = shr-lin (q +ℤ pos 1) 2 (omega arith) in
    let r = mod-lin z (2 ^ s) (pow_pos s) in
    let b = mod-lin (q +ℤ pos 1) 2 (omega arith) in
    ap (λ (i : ℕ). shr_z (shr_z z (2 ^ i) +ℤ pos 1) 2) k
    ∙ sym (
    floor-is (2 ^ (s + 1)) (2 ^ s * mod_z (q +ℤ pos 1) 2 + mod_z z (2 ^ s)) h (z +ℤ pos (2 ^ s))
    (below (2 ^ s) (mod_z (q +ℤ pos 1) 2) (mod_z z (2 ^ s)) (2 ^ (s + 1)) t b r)
    (all (2 ^ s) (2 ^ (s + 1)) z q h (z +ℤ pos (2 ^ s)) (q +ℤ pos 1) (mod_z z (2 ^ s)) (mod_z (q +ℤ pos 1) 2) t e g (add-lin z (pos (2 ^ s))) (add-lin q (pos 1)))
    )
  where
    below : (m b r k : ℕ) → k ≡ 2 * m → b < 2 → r < m → m * b + r < k
    below m b r k t h g = omega (arith, mul-le-mul_left m h)

    all : (m k : ℕ) (z q h y x : ℤ) (r b : ℕ) → k ≡ 2 * m → P z + m * N q ≡ m * P q + (N z + r) → P x + 2 * N h ≡ 2 * P h + (N x + b)
        → P y + (N z + 0) ≡ N y + (P z + m) → P x + (N q + 0) ≡ N x + (P q + 1) → P y + k * N h ≡ k * P h + (N y + (m * b + r))
    all m k z q h y x r b t e g a c = rw t (omega (arith, ap (λ (i : ℕ). m * i) g, ap (λ (i : ℕ). m * i) c))
