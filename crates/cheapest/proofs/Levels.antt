-- Of the levels on one side of the residual that of the nearest pulse number costs least. What is proved below the residual holds above it in the
-- mirror: with residual, offset and pulse numbers negated. Assumes nothing.
use Prim.Native.Nat.{ℕ, zero, suc, ◌+◌, ◌-◌, ◌*◌, ◌≤◌, ◌<◌}
use native.Mathlib.Omega.{arith}
use native.Mathlib.Decide.{dec_lt}
use mathlib.Core.Path.{◌≡◌}
use lib.IntN.{ℤ, pos, negsuc, neg_ℤ, ◌-ℤ◌}
use Rattle.fixed.proofs.Lin.{P, N, eq_of, sub-lin-Z, neg-lin}
use Rattle.choice.specs.RuleChoice.{lean, level_of}
use Rattle.choice.proofs.Near.{size, size-le, level-lin}
use Rattle.cheapest.proofs.Outward.{out-by-price, out-by-size, out-by-growth}

-- the cost before its division, of the level v: the price l for each unit of its size, and the square of its error
abbrev pub sum_at : ℕ → ℤ → ℤ → ℕ
sum_at l r v = size v * l + size (r -ℤ v) * size (r -ℤ v)

-- ---- levels rise with their pulse numbers, by 944 or more
-- 80 above zero and -80 below it: from q up to p that grows by no more than 80 for each pulse
lean-rise : (p q : ℤ) → P q + N p < P p + N q → P (lean p) + N (lean q) + 80 * (P q + N p) ≤ N (lean p) + P (lean q) + 80 * (P p + N q)
lean-rise (pos zero) (pos m) h = absurd (omega arith)
lean-rise (pos zero) (negsuc m) h = omega arith
lean-rise (pos (suc n)) (pos zero) h = omega arith
lean-rise (pos (suc n)) (pos (suc m)) h = omega arith
lean-rise (pos (suc n)) (negsuc m) h = omega arith
lean-rise (negsuc n) (pos m) h = absurd (omega arith)
lean-rise (negsuc n) (negsuc m) h = omega arith

rise : (o p q : ℤ) → P q + N p < P p + N q → N (level_of o p) + P (level_of o q) + 944 ≤ P (level_of o p) + N (level_of o q)
rise o p q h = omega (arith, level-lin o p, level-lin o q, lean-rise p q h)

-- ---- a level w that lies below the level v
module _ (l : ℕ) (r v w : ℤ) (h : N v + P w ≤ P v + N w) where
  -- by how much
  abbrev gap : ℕ
  gap = P v + N w - (N v + P w)

  errors : P (r -ℤ w) + N (r -ℤ v) ≡ N (r -ℤ w) + P (r -ℤ v) + gap
  errors = omega (arith, sub-lin-Z r v, sub-lin-Z r w)

  -- its size is smaller by no more than that, and the price is no more than twice the error and the gap
  below-by-price : l + 2 * N (r -ℤ v) ≤ 2 * P (r -ℤ v) + gap → sum_at l r v ≤ sum_at l r w
  below-by-price k =
      out-by-price (size v) (size w) l gap (r -ℤ v) (r -ℤ w) errors (size-le v (size w + gap) (omega arith) (omega arith)) k

  -- it lies no nearer to zero than v
  below-by-size : P v + P w ≤ N v + N w → 2 * N (r -ℤ v) ≤ 2 * P (r -ℤ v) + gap → sum_at l r v ≤ sum_at l r w
  below-by-size s k = out-by-size (size v) (size w) l gap (r -ℤ v) (r -ℤ w) errors (size-le v (size w) (omega arith) (omega arith)) k

  -- both are below zero, so its size is larger by the gap
  below-by-growth : P v ≤ N v → 2 * N (r -ℤ v) ≤ 2 * P (r -ℤ v) + gap + l → sum_at l r v ≤ sum_at l r w
  below-by-growth s k =
      out-by-growth (size v) (size w) l gap (r -ℤ v) (r -ℤ w) errors (omega (arith, size-le v (size w - gap) (omega arith) (omega arith))) k

-- ---- the levels below that of pulse p, where the residual is 1024p + t above the offset
-- how large t must be for them to cost no less. Above pulse 0 they may be smaller, and the price is against it: 2 * 80 + 944 is 1104. Below pulse 0 they
-- are larger, and the price helps: 944 - 2 * 80 is 784
abbrev pub Margin : ℕ → ℤ → ℤ → Type 0
Margin l (pos zero) t = 2 * N t ≤ 2 * P t + 944
Margin l (pos (suc n)) t = l + 2 * N t ≤ 2 * P t + 1104
Margin l (negsuc n) t = 2 * N t ≤ 2 * P t + 784 + l

module _ (l : ℕ) (r o : ℤ) (most : P o ≤ 472 + N o) where
  strictly-below : (p q t : ℤ) → P r + N o + 1024 * N p + N t ≡ N r + P o + 1024 * P p + P t → Margin l p t → P q + N p < P p + N q
      → sum_at l r (level_of o p) ≤ sum_at l r (level_of o q)
  strictly-below (pos zero) q t e m h =
      let a = level-lin o (pos zero) in
      let b = rise o (pos zero) q h in
      let d = sub-lin-Z r (level_of o (pos zero)) in
      below-by-size l r (level_of o (pos zero)) (level_of o q) (omega arith) (omega arith) (omega arith)
  strictly-below (pos (suc n)) q t e m h =
      let a = level-lin o (pos (suc n)) in
      let b = rise o (pos (suc n)) q h in
      let d = sub-lin-Z r (level_of o (pos (suc n))) in
      below-by-price l r (level_of o (pos (suc n))) (level_of o q) (omega arith) (omega arith)
  strictly-below (negsuc n) q t e m h =
      let a = level-lin o (negsuc n) in
      let b = rise o (negsuc n) q h in
      let d = sub-lin-Z r (level_of o (negsuc n)) in
      below-by-growth l r (level_of o (negsuc n)) (level_of o q) (omega arith) (omega arith) (omega arith)

  below-or-at : (p q t : ℤ) → P r + N o + 1024 * N p + N t ≡ N r + P o + 1024 * P p + P t → Margin l p t → P q + N p ≤ P p + N q
      → Dec (P q + N p < P p + N q) → sum_at l r (level_of o p) ≤ sum_at l r (level_of o q)
  below-or-at p q t e m h (yes k) = strictly-below p q t e m k
  below-or-at p q t e m h (no k) = let s : q ≡ p = eq_of q p (omega arith) in rw s (omega arith)

  -- the level of p costs no more than that of any q up to p
  pub nearest-below : (p q t : ℤ) → P r + N o + 1024 * N p + N t ≡ N r + P o + 1024 * P p + P t → Margin l p t → P q + N p ≤ P p + N q
      → sum_at l r (level_of o p) ≤ sum_at l r (level_of o q)
  nearest-below p q t e m h = below-or-at p q t e m h (dec_lt (P q + N p) (P p + N q))

-- ---- the mirror
lean-mirror : (p : ℤ) → (P (lean (neg_ℤ p)) ≡ N (lean p)) × (N (lean (neg_ℤ p)) ≡ P (lean p))
lean-mirror (pos zero) = omega arith
lean-mirror (pos (suc n)) = omega arith
lean-mirror (negsuc n) = omega arith

level-mirror : (o p : ℤ) → level_of (neg_ℤ o) (neg_ℤ p) ≡ neg_ℤ (level_of o p)
level-mirror o p =
    let a = level-lin o p in
    let b = level-lin (neg_ℤ o) (neg_ℤ p) in
    let i = neg-lin o in
    let j = neg-lin p in
    eq_of (level_of (neg_ℤ o) (neg_ℤ p)) (neg_ℤ (level_of o p)) (omega (arith, lean-mirror p, neg-lin (level_of o p)))

error-mirror : (r v : ℤ) → neg_ℤ r -ℤ neg_ℤ v ≡ neg_ℤ (r -ℤ v)
error-mirror r v =
    let i = neg-lin r in
    let j = neg-lin v in
    eq_of (neg_ℤ r -ℤ neg_ℤ v) (neg_ℤ (r -ℤ v)) (omega (arith, sub-lin-Z r v, sub-lin-Z (neg_ℤ r) (neg_ℤ v), neg-lin (r -ℤ v)))

size-mirror : (z : ℤ) → size (neg_ℤ z) ≡ size z
size-mirror z = omega (arith, neg-lin z)

sum-mirror : (l : ℕ) (r o p : ℤ) → sum_at l (neg_ℤ r) (level_of (neg_ℤ o) (neg_ℤ p)) ≡ sum_at l r (level_of o p)
sum-mirror l r o p =
    let v = level_of o p in
    rw (level-mirror o p, error-mirror r v, size-mirror v, size-mirror (r -ℤ v))

-- the level of p costs no more than that of any q from p on, where the residual is 1024p - t above the offset
pub nearest-above : (l : ℕ) (r o : ℤ) → N o ≤ 472 + P o → (p q t : ℤ) → P r + N o + 1024 * N p + P t ≡ N r + P o + 1024 * P p + N t
    → Margin l (neg_ℤ p) t → P p + N q ≤ P q + N p → sum_at l r (level_of o p) ≤ sum_at l r (level_of o q)
nearest-above l r o most p q t e m h =
    let i = neg-lin r in
    let j = neg-lin o in
    let a = neg-lin p in
    let b = neg-lin q in
    rw (sum-mirror l r o p, sum-mirror l r o q) at
    (nearest-below l (neg_ℤ r) (neg_ℤ o) (omega arith) (neg_ℤ p) (neg_ℤ q) t (omega arith) m (omega arith))
