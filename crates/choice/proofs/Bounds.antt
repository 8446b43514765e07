-- What holds of the chosen pair for every residual and offset in range and every Lambda: the two are neighbours in -32 .. 30, and
-- their costs lie in -1044180 .. 1045828. Examples.antt has a choice at either end.
-- Assumes nothing.
use Prim.Native.Nat.{ℕ, suc, ◌+◌, ◌*◌, ◌≤◌}
use native.Mathlib.Omega.{arith}
use native.Mathlib.Nat.{mul-le-mul, mul-le-mul_left, mul-le-mul_right}
use mathlib.Core.Path.{◌≡◌, refl, sym, ap, subst}
use mathlib.Core.Logic.{◌⊎◌, inl, inr}
use lib.IntN.{ℤ, pos, negsuc, nat_abs, ◌+ℤ◌, ◌-ℤ◌, ◌*ℤ◌}
use lib.Dec.{lit<}
use lib.Signed.{lt_z, ◌≤ℤ◌}
use mir.Syntax.{w32}
use mir.Val.{SFits}
use Rattle.fixed.specs.Wrap.{wrap16}
use Rattle.fixed.proofs.Lin.{P, N, add-lin, sub-lin-Z, neg-lin, shr-lin, mod-lin, sfits-lin, le-of-lin, lt-true, lt-false}
use Rattle.fixed.proofs.Wraps.{wrap16-fits}
use Rattle.fixed.proofs.Iters.{either-all}
use Rattle.choice.specs.RustChoice.{ordered, choice}
use Rattle.choice.specs.RuleChoice.{level_of, lower_of, cost_sum, cost_of, between, ruled}
use Rattle.choice.specs.Ranges.{InRange, Ordered, Neighbours, Costs}
use Rattle.choice.proofs.Toward.{lower-toward}
use Rattle.choice.proofs.Near.{size, Near, inside, above, below, centre, lower-near, upper-near}
use Rattle.choice.proofs.Exact.{nat_abs-size, toward-range}
use Rattle.choice.proofs.Rule.{choice-is-rule}
use Rattle.choice.proofs.Rfc.{pulse-of-level}

-- ---- the two products of a cost
price-lin : (a : ℕ) (w : ℤ) → (P (pos a *ℤ w) ≡ a * P w) × (N (pos a *ℤ w) ≡ a * N w)
price-lin a (pos b) = omega arith
price-lin a (negsuc b) = omega (arith, neg-lin (pos (a * suc b)))

pub square-lin : (z : ℤ) → (P (z *ℤ z) ≡ size z * size z) × (N (z *ℤ z) ≡ 0)
square-lin (pos n) = omega arith
square-lin (negsuc n) = omega arith

-- the tangent of the square at 912: z is e - 912
tangent-at : (z : ℤ) (e : ℕ) → P z + 912 ≡ N z + e → 1824 * e ≤ e * e + 831744
tangent-at (pos k) e h = omega (arith, ap (λ (x : ℕ). e * x) h, ap (λ (x : ℕ). x * k) h)
tangent-at (negsuc k) e h = omega (arith, ap (λ (x : ℕ). x * e) h, ap (λ (x : ℕ). x * suc k) h)

tangent : (e : ℕ) → 1824 * e ≤ e * e + 831744
tangent e = tangent-at (pos e -ℤ pos 912) e (omega (arith, sub-lin-Z (pos e) (pos 912)))

-- ---- the sum before its division, for a level of size a with an error of size e
-- at most 32767a + e² and at least e² - 32768a
record Between (a e : ℕ) (s : ℤ) : Type 0 where
  top : P s ≤ 32767 * a + e * e + N s
  bottom : N s + e * e ≤ 32768 * a + P s

sum-between : (r Lambda v : ℤ) → Between (size v) (size (r -ℤ v)) (cost_sum Lambda r v)
unfolding cost_sum
sum-between r Lambda v =
    let w = wrap16 Lambda in
    let x = pos (nat_abs v) *ℤ w in
    let y = (r -ℤ v) *ℤ (r -ℤ v) in
    let f = sfits-lin (wrap16-fits Lambda) in
    let n = nat_abs-size v in
    let px = price-lin (nat_abs v) w in
    let sy = square-lin (r -ℤ v) in
    let z = add-lin x y in
    let t : nat_abs v * P w ≤ nat_abs v * 32767 = mul-le-mul_left (nat_abs v) (omega arith) in
    let b : nat_abs v * N w ≤ nat_abs v * 32768 = mul-le-mul_left (nat_abs v) (omega arith) in
    record { top = omega arith; bottom = omega arith }

-- 1024 * 1045828 + 1023 and 1024 * 1044180
abbrev Bounded : ℤ → Type 0
Bounded s = (P s ≤ 1070928895 + N s) × (N s ≤ 1069240320 + P s)

sum-bounded : (r v s : ℤ) → Between (size v) (size (r -ℤ v)) s → Near r v → Bounded s
sum-bounded r v s b (inside h) =
    let k : size (r -ℤ v) ≤ 31744 = omega arith in let e = mul-le-mul_right (size (r -ℤ v)) k in omega arith
sum-bounded r v s b (above h k) = let e = mul-le-mul k k in omega arith
sum-bounded r v s b (below h k l) = let e = mul-le-mul k k in let t = tangent (size (r -ℤ v)) in omega arith
sum-bounded r v s b (centre h k) = let e = mul-le-mul k k in omega arith

-- ---- the cost
record CostIn (c : ℤ) : Type 0 where
  least : N c ≤ 1044180 + P c
  most : P c ≤ 1045828 + N c

cost-in : (r Lambda v : ℤ) → Near r v → CostIn (cost_of Lambda r v)
unfolding cost_of
cost-in r Lambda v n =
    let s = cost_sum Lambda r v in
    let b = sum-bounded r v s (sum-between r Lambda v) n in
    let d = shr-lin s 1024 (lit< tt) in
    let m = mod-lin s 1024 (lit< tt) in
    record { least = omega arith; most = omega arith }

ordered-costs : (q1 c1 q2 c2 : ℤ) → CostIn c1 → CostIn c2 → Costs (ordered q1 c1 q2 c2)
unfolding ordered
ordered-costs q1 c1 q2 c2 h k =
    either-all Costs (lt_z c1 c2) _ _
    (λ e.
    let t = lt-true c1 c2 e in
    record { least = le-of-lin _ c1 (omega arith); order = le-of-lin c1 c2 (omega arith); most = le-of-lin c2 _ (omega arith) })
    (λ e.
    let t = lt-false c1 c2 e in
    record { least = le-of-lin _ c2 (omega arith); order = le-of-lin c2 c1 (omega arith); most = le-of-lin c1 _ (omega arith) })

-- both costs lie in -1044180 .. 1045828, and the first is not above the second
pub choice-costs : (r Lambda o : ℤ) → InRange r o → SFits w32 Lambda → Costs (choice r Lambda o)
unfolding ruled between
choice-costs r Lambda o h f =
    let p = lower_of (r -ℤ o) Lambda in
    let t = lower-toward (r -ℤ o) Lambda f in
    let u = upper-near r o h p (p +ℤ pos 1) (omega (arith, add-lin p (pos 1))) t in
    subst Costs (sym (choice-is-rule r Lambda o h f))
    (ordered-costs (level_of o p) (cost_of Lambda r (level_of o p)) (level_of o (p +ℤ pos 1)) (cost_of Lambda r (level_of o (p +ℤ pos 1)))
    (cost-in r Lambda (level_of o p) (lower-near r o h p t)) (cost-in r Lambda (level_of o (p +ℤ pos 1)) u))

-- ---- the pulses
ordered-levels : (o p s c1 c2 : ℤ) → pos 32 ≤ℤ o → o ≤ℤ pos 240
    → Ordered o p s (ordered (level_of o p) c1 (level_of o s) c2) ⊎ Ordered o s p (ordered (level_of o p) c1 (level_of o s) c2)
unfolding ordered
ordered-levels o p s c1 c2 h k =
    either-all (λ c. Ordered o p s c ⊎ Ordered o s p c) (lt_z c1 c2) _ _
    (λ e. inl (record { first_level = refl; second_level = refl; first_pulse = pulse-of-level o p h k; second_pulse = pulse-of-level o s h k }))
    (λ e. inr (record { first_level = refl; second_level = refl; first_pulse = pulse-of-level o s h k; second_pulse = pulse-of-level o p h k }))

-- both candidates lie in -32 .. 30, for every Lambda, and the second is the first's neighbour
pub choice-pulses : (r Lambda o : ℤ) → InRange r o → SFits w32 Lambda → Neighbours o (lower_of (r -ℤ o) Lambda) (choice r Lambda o)
unfolding ruled between
choice-pulses r Lambda o h f =
    let p = lower_of (r -ℤ o) Lambda in
    let g = toward-range h (lower-toward (r -ℤ o) Lambda f) in
    let a = add-lin p (pos 1) in
    subst (Neighbours o p) (sym (choice-is-rule r Lambda o h f))
    (record {
      low = le-of-lin (negsuc 31) p (omega arith);
      high = le-of-lin (p +ℤ pos 1) (pos 30) (omega arith);
      order = ordered-levels o p (p +ℤ pos 1) (cost_of Lambda r (level_of o p)) (cost_of Lambda r (level_of o (p +ℤ pos 1))) h.least h.most;
    })
