-- Nothing wraps in the choice, for every residual and offset in range and every Lambda.
-- Assumes nothing.
use Prim.Native.Nat.{◌+◌, ◌*◌, ◌^◌, ◌≤◌}
use native.Mathlib.Omega.{arith}
use mathlib.Core.Path.{◌≡◌}
use lib.IntN.{ℤ, pos, negsuc, neg_ℤ, nat_abs, ◌+ℤ◌, ◌-ℤ◌, ◌*ℤ◌}
use lib.Signed.{quot_z}
use mir.Syntax.{w16, w32}
use mir.Val.{SFits}
use Rattle.fixed.specs.Wrap.{wrap16}
use Rattle.fixed.proofs.Lin.{P, N, add-lin, sub-lin-Z, neg-lin, mul-lin, abs-lin, sfits-lin, sfits-of-lin}
use Rattle.fixed.proofs.Wraps.{wrap16-fits}
use Rattle.choice.specs.RuleChoice.{level_of, lower_of, cost_sum}
use Rattle.choice.specs.Ranges.{InRange, BranchFits, LevelFits, PulseFits, NothingWraps}
use Rattle.choice.proofs.Toward.{Toward, up, down, bias-lin, lower-toward}
use Rattle.choice.proofs.Near.{size, span-lin, times-lin, Near, inside, above, below, centre, lower-near, upper-near}

-- ---- a level
near-sizes : {r v : ℤ} → Near r v → (size v ≤ 32656) × (size (r -ℤ v) ≤ 31984)
near-sizes (inside a) = omega arith
near-sizes (above a b) = omega arith
near-sizes (below a b c) = omega arith
near-sizes (centre a b) = omega arith

pub nat_abs-size : (z : ℤ) → nat_abs z ≡ size z
nat_abs-size (pos n) = omega arith
nat_abs-size (negsuc n) = omega arith

half-size : (Lambda : ℤ) → size (wrap16 Lambda) ≤ 2 ^ 15
half-size Lambda = let f = sfits-lin (wrap16-fits Lambda) in abs-lin (wrap16 Lambda) (2 ^ 15) (omega arith) f.1

price-size : (Lambda v : ℤ) → size v ≤ 32656 → size (pos (nat_abs v) *ℤ wrap16 Lambda) ≤ 32656 * 2 ^ 15
price-size Lambda v h =
    mul-lin 32656 (2 ^ 15) (pos (nat_abs v)) (wrap16 Lambda) (omega (arith, nat_abs-size v)) (half-size Lambda)

square-size : (z : ℤ) → size z ≤ 31984 → size (z *ℤ z) ≤ 31984 * 31984
square-size z h = mul-lin 31984 31984 z z h h

pub level-fits : (r Lambda v : ℤ) → Near r v → LevelFits r Lambda v
unfolding cost_sum
level-fits r Lambda v n =
    let s = near-sizes n in
    let a = price-size Lambda v s.0 in
    let b = square-size (r -ℤ v) s.1 in
    let e = neg-lin v in
    let z = add-lin (pos (nat_abs v) *ℤ wrap16 Lambda) ((r -ℤ v) *ℤ (r -ℤ v)) in
    record {
      itself = sfits-of-lin w16 v (omega arith) (omega arith);
      negated = sfits-of-lin w16 (neg_ℤ v) (omega arith) (omega arith);
      error = sfits-of-lin w16 (r -ℤ v) (omega arith) (omega arith);
      price = sfits-of-lin w32 (pos (nat_abs v) *ℤ wrap16 Lambda) (omega arith) (omega arith);
      square = sfits-of-lin w32 ((r -ℤ v) *ℤ (r -ℤ v)) (omega arith) (omega arith);
      sum = sfits-of-lin w32 (pos (nat_abs v) *ℤ wrap16 Lambda +ℤ (r -ℤ v) *ℤ (r -ℤ v)) (omega arith) (omega arith);
    }

-- ---- the lower pulse
pub toward-range : {r o p : ℤ} → InRange r o → Toward (r -ℤ o) p → (P p ≤ 29 + N p) × (N p ≤ 32 + P p)
toward-range {r} {o} h (up a b c) = let i = span-lin h in let d = sub-lin-Z r o in omega arith
toward-range {r} {o} h (down a b c) = let i = span-lin h in let d = sub-lin-Z r o in omega arith

pulse-fits : (p : ℤ) → P p ≤ 29 + N p → N p ≤ 32 + P p → PulseFits p
pulse-fits p h k =
    let s = times-lin 1024 p in
    let d = sub-lin-Z (p *ℤ pos 1024) (pos 80) in
    let e = add-lin (p *ℤ pos 1024) (pos 80) in
    record {
      scaled = sfits-of-lin w32 (p *ℤ pos 1024) (omega arith) (omega arith);
      less = sfits-of-lin w32 (p *ℤ pos 1024 -ℤ pos 80) (omega arith) (omega arith);
      more = sfits-of-lin w32 (p *ℤ pos 1024 +ℤ pos 80) (omega arith) (omega arith);
    }

-- ---- the branch for Lambda above 2048
branch_fits : {r o : ℤ} (d : ℤ) → InRange r o → 512 + N d ≤ P d → P d ≤ 2 ^ 30 + N d → BranchFits (r -ℤ o) d
branch_fits {r} {o} d h l k =
    let i = span-lin h in
    let q = sub-lin-Z r o in
    let n = neg-lin d in
    let e = sub-lin-Z (r -ℤ o) d in
    let m = add-lin (r -ℤ o) d in
    record {
      bias = sfits-of-lin w32 d (omega arith) (omega arith);
      negated = sfits-of-lin w32 (neg_ℤ d) (omega arith) (omega arith);
      less = sfits-of-lin w32 (r -ℤ o -ℤ d) (omega arith) (omega arith);
      more = sfits-of-lin w32 (r -ℤ o +ℤ d) (omega arith) (omega arith);
    }

difference-fits : {r o : ℤ} → InRange r o → SFits w32 (r -ℤ o)
difference-fits {r} {o} h = let i = span-lin h in let q = sub-lin-Z r o in sfits-of-lin w32 (r -ℤ o) (omega arith) (omega arith)

-- no step of the choice leaves its type
pub nothing-wraps : (r Lambda o : ℤ) → InRange r o → SFits w32 Lambda → NothingWraps r Lambda o
nothing-wraps r Lambda o h f =
    let p = lower_of (r -ℤ o) Lambda in
    let t = lower-toward (r -ℤ o) Lambda f in
    let g = toward-range h t in
    record {
      difference = difference-fits h;
      branch = λ e. let b = bias-lin Lambda f e in branch_fits (quot_z Lambda (pos 2) -ℤ pos 512) h b.0 b.1;
      pulse = pulse-fits p g.0 g.1;
      lower = level-fits r Lambda (level_of o p) (lower-near r o h p t);
      upper = level-fits r Lambda (level_of o (p +ℤ pos 1)) (upper-near r o h p (p +ℤ pos 1) (omega (arith, add-lin p (pos 1))) t);
    }
