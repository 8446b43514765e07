-- The Rust's steps and the rule of docs/RULES.md are the same choice, for every residual and offset in range and every Lambda.
-- Assumes nothing.
use Prim.Native.Nat.{zero, suc, ◌+◌, ◌≤◌, ◌<◌}
use native.Mathlib.Omega.{arith}
use mathlib.Core.Path.{◌≡◌, refl, ap, ◌∙◌}
use mathlib.Core.Bool.{true}
use lib.IntN.{ℤ, pos, negsuc, neg_ℤ, nat_abs, ◌+ℤ◌, ◌-ℤ◌, ◌*ℤ◌}
use lib.Signed.{lt_z, quot_z}
use mir.Syntax.{w16, w32}
use mir.Val.{SFits}
use Rattle.fixed.specs.Wrap.{wrap32, wrap16}
use Rattle.fixed.specs.Shift.{shr, shl32, shr32}
use Rattle.products.specs.Product.{smulbb, smlabb}
use Rattle.fixed.proofs.Lin.{P, N, eq_of, add-lin, sub-lin-Z}
use Rattle.fixed.proofs.Wraps.{wrap32-id, wrap16-id}
use Rattle.fixed.proofs.Fit.{fit16-32}
use Rattle.fixed.proofs.Iters.{either-rel}
use Rattle.levels.specs.declared.level.Pair.{Pair}
use Rattle.choice.specs.RustChoice.{with_noise, costed, choice}
use Rattle.levels.specs.Levels.{biased, q1_Q0, above, at_zero, at_minus_one, below, tried}
use Rattle.choice.specs.RuleChoice.{level_of, rounded, lower_of, cost_sum, cost_of, between, ruled}
use Rattle.choice.specs.Ranges.{InRange, BranchFits, LevelFits, PulseFits}
use Rattle.choice.proofs.Near.{span-lin, times-lin, level-lin, lean-above, lean-down}
use Rattle.choice.proofs.Exact.{nothing-wraps}

-- ---- the lower pulse
biased-exact : (q d : ℤ) → BranchFits q d → biased q d ≡ rounded q d
unfolding biased rounded shr32 shr
biased-exact q d b = rw (wrap32-id b.less, wrap32-id b.negated, wrap32-id b.more)

lower-exact : (q Lambda : ℤ) → (lt_z (pos 2048) Lambda ≡ true → BranchFits q (quot_z Lambda (pos 2) -ℤ pos 512)) → q1_Q0 q Lambda ≡ lower_of q Lambda
unfolding q1_Q0 lower_of shr32 shr
lower-exact q Lambda b =
    either-rel (λ x y. x ≡ y) (lt_z (pos 2048) Lambda) _ _ _ _
    (λ e. let d = quot_z Lambda (pos 2) -ℤ pos 512 in ap (biased q) (wrap32-id (b e).bias) ∙ biased-exact q d (b e)) (λ e. refl)

-- ---- the size of a level as the Rust has it
price-up : (Lambda v : ℤ) → N v ≤ P v → SFits w16 v → smulbb v Lambda ≡ pos (nat_abs v) *ℤ wrap16 Lambda
unfolding smulbb
price-up Lambda (pos n) h f = rw (wrap16-id f)
price-up Lambda (negsuc n) h f = absurd (omega arith)

price-down : (Lambda v : ℤ) → P v ≤ N v → SFits w16 (neg_ℤ v) → smulbb (wrap32 (neg_ℤ v)) Lambda ≡ pos (nat_abs v) *ℤ wrap16 Lambda
unfolding smulbb
price-down Lambda (pos zero) h f = rw (wrap32-id (fit16-32 f), wrap16-id f)
price-down Lambda (pos (suc n)) h f = absurd (omega arith)
price-down Lambda (negsuc n) h f = rw (wrap32-id (fit16-32 f), wrap16-id f)

-- both levels of lower pulse p, each with its size times Lambda
abbrev priced : ℤ → ℤ → ℤ → Pair
priced p o Lambda =
    record {
      q1 = level_of o p;
      rd1 = pos (nat_abs (level_of o p)) *ℤ wrap16 Lambda;
      q2 = level_of o (p +ℤ pos 1);
      rd2 = pos (nat_abs (level_of o (p +ℤ pos 1))) *ℤ wrap16 Lambda;
    }

-- what is known where the four cases are compared
module _ (r Lambda o : ℤ) (h : InRange r o) where
  abbrev Fits : ℤ → Type 0
  Fits p = PulseFits p × LevelFits r Lambda (level_of o p) × LevelFits r Lambda (level_of o (p +ℤ pos 1))

  -- a sum that is a level needs no wrap
  level-is : (z v : ℤ) → z ≡ v → LevelFits r Lambda v → wrap32 z ≡ v
  level-is z v e f = ap wrap32 e ∙ wrap32-id (fit16-32 f.itself)

  above-exact : (p : ℤ) → N p < P p → Fits p → above p o Lambda ≡ priced p o Lambda
  unfolding above shl32
  above-exact p k f =
      let i = span-lin h in
      let u = level_of o p in
      let w = level_of o (p +ℤ pos 1) in
      let x = p *ℤ pos 1024 -ℤ pos 80 in
      let n = add-lin p (pos 1) in
      let m = times-lin 1024 p in
      let lu = level-lin o p in
      let au = lean-above p k in
      let lw = level-lin o (p +ℤ pos 1) in
      let aw = lean-above (p +ℤ pos 1) (omega arith) in
      let sx = sub-lin-Z (p *ℤ pos 1024) (pos 80) in
      let a = level-is (x +ℤ o) u (eq_of (x +ℤ o) u (omega (arith, add-lin x o))) f.1 in
      let b = level-is (u +ℤ pos 1024) w (eq_of (u +ℤ pos 1024) w (omega (arith, add-lin u (pos 1024)))) f.2 in
      rw (wrap32-id f.0.scaled, wrap32-id f.0.less, a, b, price-up Lambda u (omega arith) f.1.itself, price-up Lambda w (omega arith) f.2.itself)

  below-exact : (p : ℤ) → P p + 1 < N p → Fits p → below p o Lambda ≡ priced p o Lambda
  unfolding below shl32
  below-exact p k f =
      let i = span-lin h in
      let u = level_of o p in
      let w = level_of o (p +ℤ pos 1) in
      let x = p *ℤ pos 1024 +ℤ pos 80 in
      let n = add-lin p (pos 1) in
      let m = times-lin 1024 p in
      let lu = level-lin o p in
      let au = lean-down p (omega arith) in
      let lw = level-lin o (p +ℤ pos 1) in
      let aw = lean-down (p +ℤ pos 1) (omega arith) in
      let sx = add-lin (p *ℤ pos 1024) (pos 80) in
      let a = level-is (x +ℤ o) u (eq_of (x +ℤ o) u (omega (arith, add-lin x o))) f.1 in
      let b = level-is (u +ℤ pos 1024) w (eq_of (u +ℤ pos 1024) w (omega (arith, add-lin u (pos 1024)))) f.2 in
      rw (wrap32-id f.0.scaled, wrap32-id f.0.more, a, b, price-down Lambda u (omega arith) f.1.negated, price-down Lambda w (omega arith) f.2.negated)

  -- the level of pulse 0 is the offset
  level-zero : level_of o (pos 0) ≡ o
  level-zero = eq_of (level_of o (pos 0)) o (omega (arith, level-lin o (pos 0)))

  zero-exact : Fits (pos 0) → at_zero o Lambda ≡ priced (pos 0) o Lambda
  unfolding at_zero
  zero-exact f =
      let i = span-lin h in
      let w = level_of o (pos 1) in
      let lw = level-lin o (pos 1) in
      let b = level-is (o +ℤ pos 944) w (eq_of (o +ℤ pos 944) w (omega (arith, add-lin o (pos 944)))) f.2 in
      let fo = rw level-zero at f.1 in
      rw (level-zero, b, price-up Lambda o (omega arith) fo.itself, price-up Lambda w (omega arith) f.2.itself)

  minus-one-exact : Fits (negsuc 0) → at_minus_one o Lambda ≡ priced (negsuc 0) o Lambda
  unfolding at_minus_one
  minus-one-exact f =
      let i = span-lin h in
      let u = level_of o (negsuc 0) in
      let lu = level-lin o (negsuc 0) in
      let a = level-is (o -ℤ pos 944) u (eq_of (o -ℤ pos 944) u (omega (arith, sub-lin-Z o (pos 944)))) f.1 in
      let fo = rw level-zero at f.2 in
      rw (level-zero, a, price-down Lambda u (omega arith) f.1.negated, price-up Lambda o (omega arith) fo.itself)

  tried-exact : (p : ℤ) → Fits p → tried p o Lambda ≡ priced p o Lambda
  unfolding tried
  tried-exact (pos zero) f = zero-exact f
  tried-exact (pos (suc n)) f = above-exact (pos (suc n)) (omega arith) f
  tried-exact (negsuc zero) f = minus-one-exact f
  tried-exact (negsuc (suc n)) f = below-exact (negsuc (suc n)) (omega arith) f

  -- ---- the cost
  cost-exact : (v : ℤ) → LevelFits r Lambda v → with_noise (pos (nat_abs v) *ℤ wrap16 Lambda) r v ≡ cost_of Lambda r v
  unfolding with_noise cost_of cost_sum smlabb smulbb shr32 shr
  cost-exact v f = rw (wrap32-id (fit16-32 f.error), wrap16-id f.error, wrap32-id f.sum)

-- the choice of the Rust's steps is that of the rule
pub choice-is-rule : (r Lambda o : ℤ) → InRange r o → SFits w32 Lambda → choice r Lambda o ≡ ruled r Lambda o
unfolding choice costed ruled between
choice-is-rule r Lambda o h f =
    let n = nothing-wraps r Lambda o h f in
    let p = lower_of (r -ℤ o) Lambda in
    ap (λ (q : ℤ). costed r (tried (q1_Q0 q Lambda) o Lambda)) (wrap32-id n.difference)
    ∙ ap (λ (p : ℤ). costed r (tried p o Lambda)) (lower-exact (r -ℤ o) Lambda n.branch)
    ∙ ap (costed r) (tried-exact r Lambda o h p (n.pulse, n.lower, n.upper))
    ∙ rw (cost-exact r Lambda o h (level_of o p) n.lower, cost-exact r Lambda o h (level_of o (p +ℤ pos 1)) n.upper)
