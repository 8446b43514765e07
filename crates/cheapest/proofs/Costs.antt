-- The cost of docs/RULES.md at a Lambda from 0 to 32767: it is the floor of a natural number, in the order of these. Assumes nothing.
use Prim.Native.Nat.{ℕ, ◌*◌, ◌≤◌}
use native.Mathlib.Omega.{arith}
use mathlib.Core.Path.{◌≡◌, refl}
use mathlib.Core.Logic.{inl, inr}
use lib.IntN.{ℤ, pos, negsuc, ◌-ℤ◌, ◌*ℤ◌}
use lib.Dec.{lit<}
use lib.Signed.{shr_z, ◌≤ℤ◌}
use mir.Syntax.{w32}
use mir.Val.{SFits}
use Rattle.fixed.specs.Wrap.{wrap16}
use Rattle.fixed.proofs.Lin.{P, eq_of, shr-lin, mod-lin, sfits-of-lin, le-lin, le-of-lin}
use Rattle.fixed.proofs.Wraps.{wrap16-id}
use Rattle.choice.specs.RuleChoice.{level_of, cost_sum, cost_of}
use Rattle.choice.proofs.Near.{size}
use Rattle.choice.proofs.Exact.{nat_abs-size}
use Rattle.choice.proofs.Bounds.{square-lin}
use Rattle.cheapest.specs.Cheapest.{pulse_cost, LambdaIn, FairLambda}
use Rattle.cheapest.proofs.Levels.{sum_at}

-- ---- Lambda
-- a part of a range is in the range
pub lambda-in : {least most : ℕ} (low high : ℕ) {Lambda : ℤ} → LambdaIn least most Lambda → low ≤ least → most ≤ high → LambdaIn low high Lambda
lambda-in low high {Lambda} h a b =
    let i = le-lin h.low in
    let j = le-lin h.high in
    record { low = le-of-lin (pos low) Lambda (omega arith); high = le-of-lin Lambda (pos high) (omega arith) }

-- all those with which nothing is lost are from 0 to 32767
pub fair-plain : {Lambda : ℤ} → FairLambda Lambda → LambdaIn 0 32767 Lambda
fair-plain (inl h) = lambda-in 0 32767 h (omega arith) (omega arith)
fair-plain (inr h) = lambda-in 0 32767 h (omega arith) (omega arith)

-- it is an i32
pub lambda-word : {Lambda : ℤ} → LambdaIn 0 32767 Lambda → SFits w32 Lambda
lambda-word {Lambda} h = sfits-of-lin w32 Lambda (omega (arith, le-lin h.high)) (omega (arith, le-lin h.low))

-- and its own reading as i16
half : (Lambda : ℤ) → LambdaIn 0 32767 Lambda → wrap16 Lambda ≡ pos (P Lambda)
half (pos n) h = wrap16-id (record { sfits = omega (arith, le-lin h.high) })
half (negsuc n) h = absurd h.low.le

-- ---- the cost
-- a pulse's cost is that of its level
pub pulse-is : (r Lambda offset p : ℤ) → pulse_cost r Lambda offset p ≡ cost_of Lambda r (level_of offset p)
unfolding pulse_cost cost_of cost_sum level_of
pulse-is r Lambda offset p = refl

square-is : (z : ℤ) → z *ℤ z ≡ pos (size z * size z)
square-is z = eq_of (z *ℤ z) (pos (size z * size z)) (omega (arith, square-lin z))

-- the floor of the sum before its division
pub cost-is : (r Lambda v : ℤ) → LambdaIn 0 32767 Lambda → cost_of Lambda r v ≡ shr_z (pos (sum_at (P Lambda) r v)) 1024
unfolding cost_of cost_sum
cost-is r Lambda v h = rw (half Lambda h, square-is (r -ℤ v), nat_abs-size v)

-- the floor keeps the order
floor-keeps : (a b : ℕ) → a ≤ b → shr_z (pos a) 1024 ≤ℤ shr_z (pos b) 1024
floor-keeps a b h =
    let s = shr-lin (pos a) 1024 (lit< tt) in
    let m = mod-lin (pos a) 1024 (lit< tt) in
    let t = shr-lin (pos b) 1024 (lit< tt) in
    let n = mod-lin (pos b) 1024 (lit< tt) in
    le-of-lin (shr_z (pos a) 1024) (shr_z (pos b) 1024) (omega arith)

-- so what is no more before the division costs no more
pub cost-keeps : (r Lambda offset p q : ℤ) → LambdaIn 0 32767 Lambda
    → sum_at (P Lambda) r (level_of offset p) ≤ sum_at (P Lambda) r (level_of offset q) → pulse_cost r Lambda offset p ≤ℤ pulse_cost r Lambda offset q
cost-keeps r Lambda offset p q h k =
    rw (pulse-is r Lambda offset p, pulse-is r Lambda offset q, cost-is r Lambda (level_of offset p) h, cost-is r Lambda (level_of offset q) h) (floor-keeps _ _ k)
