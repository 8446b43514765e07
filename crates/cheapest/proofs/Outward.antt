-- Of two levels on one side of the residual the one further out costs no less, before the division, where the price allows it. A level of size a
-- with the error u costs a * l + u², l the price; the other, of size b, has an error w that is g further out.
-- Assumes nothing.
use Prim.Native.Nat.{ℕ, suc, ◌+◌, ◌*◌, ◌≤◌}
use native.Mathlib.Omega.{arith}
use native.Mathlib.Nat.{mul-le-mul_left, mul-le-mul_right}
use mathlib.Core.Path.{◌≡◌, ap}
use lib.IntN.{ℤ, pos, negsuc}
use Rattle.fixed.proofs.Lin.{P, N}
use Rattle.choice.proofs.Near.{size}

-- (u + g)² = u² + g * (2u + g)
square-out : (u w : ℤ) (g : ℕ) → P w + N u ≡ N w + P u + g → size w * size w + g * (2 * N u) ≡ size u * size u + g * (2 * P u + g)
square-out (pos k) (pos m) g e =
    omega (arith, ap (λ (x : ℕ). m * x) e, ap (λ (x : ℕ). x * k) e, ap (λ (x : ℕ). x * g) e)
square-out (pos k) (negsuc m) g e = absurd (omega arith)
square-out (negsuc k) (pos m) g e =
    omega (arith, ap (λ (x : ℕ). m * x) e, ap (λ (x : ℕ). x * suc k) e, ap (λ (x : ℕ). x * g) e)
square-out (negsuc k) (negsuc m) g e =
    omega (arith, ap (λ (x : ℕ). suc m * x) e, ap (λ (x : ℕ). x * suc k) e, ap (λ (x : ℕ). x * g) e)

module _ (a b l g : ℕ) (u w : ℤ) (e : P w + N u ≡ N w + P u + g) where
  -- the level further out is smaller by at most g, and the price is at most 2u + g
  pub out-by-price : a ≤ b + g → l + 2 * N u ≤ 2 * P u + g → a * l + size u * size u ≤ b * l + size w * size w
  out-by-price h k = omega (arith, square-out u w g e, mul-le-mul_right l h, mul-le-mul_left g k)

  -- it is no smaller, and 2u + g is not negative: any price
  pub out-by-size : a ≤ b → 2 * N u ≤ 2 * P u + g → a * l + size u * size u ≤ b * l + size w * size w
  out-by-size h k = omega (arith, square-out u w g e, mul-le-mul_right l h, mul-le-mul_left g k)

  -- it is larger by g or more: then the price helps
  pub out-by-growth : a + g ≤ b → 2 * N u ≤ 2 * P u + g + l → a * l + size u * size u ≤ b * l + size w * size w
  out-by-growth h k = omega (arith, square-out u w g e, mul-le-mul_right l h, mul-le-mul_left g k)
