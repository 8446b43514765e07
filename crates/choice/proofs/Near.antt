-- How far the two levels lie from zero and from the residual, for every Lambda.
-- Assumes nothing.
use Prim.Native.Nat.{ℕ, zero, suc, ◌+◌, ◌*◌, ◌≤◌, ◌<◌}
use native.Mathlib.Omega.{arith}
use mathlib.Core.Path.{◌≡◌}
use mathlib.Core.Logic.{◌⊎◌, inl, inr, ⊎_elim}
use lib.IntN.{ℤ, pos, negsuc, ◌+ℤ◌, ◌-ℤ◌, ◌*ℤ◌}
use Rattle.fixed.proofs.Lin.{P, N, add-lin, sub-lin-Z, neg-lin, le-lin}
use Rattle.choice.specs.RuleChoice.{lean, level_of}
use Rattle.choice.specs.Ranges.{InRange}
use Rattle.choice.proofs.Toward.{Toward, up, down}

-- |z|
abbrev pub size : ℤ → ℕ
size z = P z + N z

-- ---- sizes from bounds
pub size-le : (z : ℤ) (H : ℕ) → P z ≤ H + N z → N z ≤ H + P z → size z ≤ H
size-le (pos n) H h k = omega arith
size-le (negsuc n) H h k = omega arith

-- two numbers that are not negative, and two that are not positive: the size of the sum is the sum of the sizes
both-up : (a b : ℤ) (H : ℕ) → N a ≤ P a → N b ≤ P b → P a + P b ≤ H + N a + N b → size a + size b ≤ H
both-up (pos a) (pos b) H h k l = omega arith
both-up (pos a) (negsuc b) H h k l = absurd (omega arith)
both-up (negsuc a) b H h k l = absurd (omega arith)

both-down : (a b : ℤ) (H : ℕ) → P a ≤ N a → P b ≤ N b → N a + N b ≤ H + P a + P b → size a + size b ≤ H
both-down (pos a) (pos b) H h k l = omega arith
both-down (pos a) (negsuc b) H h k l = omega arith
both-down (negsuc a) (pos b) H h k l = omega arith
both-down (negsuc a) (negsuc b) H h k l = omega arith

way : (z : ℤ) → (P z ≤ N z) ⊎ (N z < P z)
way (pos zero) = inl (omega arith)
way (pos (suc n)) = inr (omega arith)
way (negsuc n) = inl (omega arith)

-- ---- the level
-- k times a number
pub times-lin : (k : ℕ) (z : ℤ) → (P (z *ℤ pos k) ≡ k * P z) × (N (z *ℤ pos k) ≡ k * N z)
times-lin k (pos n) = omega arith
times-lin k (negsuc n) = omega (arith, neg-lin (pos (suc n * k)))

pub level-lin : (o p : ℤ) → P (level_of o p) + (1024 * N p + N o + P (lean p)) ≡ N (level_of o p) + (1024 * P p + P o + N (lean p))
unfolding level_of
level-lin o p = omega (arith, times-lin 1024 p, add-lin (p *ℤ pos 1024) o, sub-lin-Z (p *ℤ pos 1024 +ℤ o) (lean p))

lean-up : (p : ℤ) → N p ≤ P p → (N (lean p) ≡ 0) × (P (lean p) ≤ 80) × (P (lean p) + 80 * N p ≤ 80 * P p)
lean-up (pos zero) h = omega arith
lean-up (pos (suc n)) h = omega arith
lean-up (negsuc n) h = absurd (omega arith)

pub lean-above : (p : ℤ) → N p < P p → (P (lean p) ≡ 80) × (N (lean p) ≡ 0)
lean-above (pos zero) h = absurd (omega arith)
lean-above (pos (suc n)) h = omega arith
lean-above (negsuc n) h = absurd (omega arith)

pub lean-down : (p : ℤ) → P p < N p → (P (lean p) ≡ 0) × (N (lean p) ≡ 80)
lean-down (pos n) h = absurd (omega arith)
lean-down (negsuc n) h = omega arith

-- ---- the four places of a level: between zero and the residual; above a residual that is not negative; below a negative
-- one, where the least levels are; at the offset, for a residual below it
pub data Near (r level : ℤ) : Type 0 where
  inside : size level + size (r -ℤ level) ≤ 31744 → Near r level
  above : size level ≤ 31664 → size (r -ℤ level) ≤ 944 → Near r level
  below : size level ≤ 32656 → size (r -ℤ level) ≤ 943 → size level ≤ size (r -ℤ level) + 31744 → Near r level
  centre : size level ≤ 240 → size (r -ℤ level) ≤ 31984 → Near r level

pub span-lin : {r o : ℤ} → InRange r o → (N r ≤ P r + 31744) × (P r ≤ 30720 + N r) × (32 + N o ≤ P o) × (P o ≤ 240 + N o)
span-lin h = omega (arith, le-lin h.low, le-lin h.high, le-lin h.least, le-lin h.most)

module _ (r o : ℤ) (h : InRange r o) where
  pub lower-near : (p : ℤ) → Toward (r -ℤ o) p → Near r (level_of o p)
  lower-near p (up a b c) =
      let v = level_of o p in
      let i = span-lin h in
      let l = level-lin o p in
      let k = lean-up p b in
      let e1 = sub-lin-Z r v in
      let e2 = sub-lin-Z r o in
      inside (both-up v (r -ℤ v) 31744 (omega arith) (omega arith) (omega arith))
  lower-near p (down a b c) =
      let v = level_of o p in
      let i = span-lin h in
      let l = level-lin o p in
      let k = lean-down p b in
      let e1 = sub-lin-Z r v in
      let e2 = sub-lin-Z r o in
      ⊎_elim
      (λ w. inside (both-down v (r -ℤ v) 31744 (omega arith) (omega arith) (omega arith)))
      (λ w.
      let s = size-le (r -ℤ v) 943 (omega arith) (omega arith) in
      below (size-le v 32656 (omega arith) (omega arith)) s (omega (arith, size-le v (size (r -ℤ v) + 31744) (omega arith) (omega arith))))
      (way (r -ℤ v))

  -- s is p + 1
  pub upper-near : (p s : ℤ) → P s + N p ≡ N s + P p + 1 → Toward (r -ℤ o) p → Near r (level_of o s)
  upper-near p (pos zero) e t =
      let v = level_of o (pos 0) in
      let i = span-lin h in
      let l = level-lin o (pos 0) in
      let e1 = sub-lin-Z r v in
      let e2 = sub-lin-Z r o in
      centre (size-le v 240 (omega arith) (omega arith)) (size-le (r -ℤ v) 31984 (omega arith) (omega arith))
  upper-near p (pos (suc n)) e (up a b c) =
      let v = level_of o (pos (suc n)) in
      let i = span-lin h in
      let l = level-lin o (pos (suc n)) in
      let e1 = sub-lin-Z r v in
      let e2 = sub-lin-Z r o in
      ⊎_elim
      (λ w. above (size-le v 31664 (omega arith) (omega arith)) (size-le (r -ℤ v) 944 (omega arith) (omega arith)))
      (λ w. inside (both-up v (r -ℤ v) 31744 (omega arith) (omega arith) (omega arith)))
      (way (r -ℤ v))
  upper-near p (pos (suc n)) e (down a b c) = absurd (omega arith)
  upper-near p (negsuc n) e (up a b c) = absurd (omega arith)
  upper-near p (negsuc n) e (down a b c) =
      let v = level_of o (negsuc n) in
      let i = span-lin h in
      let l = level-lin o (negsuc n) in
      let e1 = sub-lin-Z r v in
      let e2 = sub-lin-Z r o in
      inside (both-down v (r -ℤ v) 31744 (omega arith) (omega arith) (omega arith))
