-- The theorems at the offsets of the table and at residuals as they come: every seed, residual, Lambda, signal type and offset type.
-- Assumes nothing.
use Prim.Native.Nat.{ℕ, zero, suc, ◌+◌, ◌≤◌}
use native.Mathlib.Omega.{arith}
use mathlib.Core.Path.{◌≡◌, ap, ◌∙◌}
use lib.IntN.{ℤ, pos, negsuc, ◌-ℤ◌, ◌*ℤ◌}
use lib.Signed.{lt_z, ◌≤ℤ◌}
use mir.Syntax.{w32}
use mir.Val.{SFits}
use Rattle.fixed.specs.Range.{clamp}
use Rattle.fixed.proofs.Lin.{P, N, le-of-lin, lt-false}
use Rattle.fixed.proofs.Iters.{either-all}
use Rattle.rfc6716.specs.Excitation.{offset_Q23, value}
use Rattle.residuals.specs.Offset.{offset_of}
use Rattle.residuals.specs.Residual.{turned, signed_residual, pulse_of}
use Rattle.choice.specs.RustChoice.{choice}
use Rattle.choice.specs.RuleChoice.{level_of, lower_of, ruled}
use Rattle.choice.specs.Ranges.{InRange, NothingWraps, Neighbours, Costs}
use Rattle.choice.proofs.Exact.{nothing-wraps}
use Rattle.choice.proofs.Rule.{choice-is-rule}
use Rattle.choice.proofs.Rfc.{offset-is-rfc, level-is-rfc, pulse-of-level}
use Rattle.choice.proofs.Bounds.{choice-pulses, choice-costs}

record Span (lo hi z : ℤ) : Type 0 where
  low : lo ≤ℤ z
  high : z ≤ℤ hi

span : (lo hi z : ℤ) → P lo + N z ≤ P z + N lo → P z + N hi ≤ P hi + N z → Span lo hi z
span lo hi z h k = record { low = le-of-lin lo z h; high = le-of-lin z hi k }

-- what holds of 100, 240 and 32 holds of each entry of the table
pub table-all : (Q : ℤ → Type 0) → Q (pos 100) → Q (pos 240) → Q (pos 32) → (signalType offset_type : ℕ) → signalType ≤ 2 → offset_type ≤ 1
    → Q (offset_of signalType offset_type)
unfolding offset_of
table-all Q a b c zero zero h k = a
table-all Q a b c zero (suc zero) h k = b
table-all Q a b c zero (suc (suc n)) h k = absurd (omega arith)
table-all Q a b c (suc zero) zero h k = a
table-all Q a b c (suc zero) (suc zero) h k = b
table-all Q a b c (suc zero) (suc (suc n)) h k = absurd (omega arith)
table-all Q a b c (suc (suc zero)) zero h k = c
table-all Q a b c (suc (suc zero)) (suc zero) h k = a
table-all Q a b c (suc (suc zero)) (suc (suc n)) h k = absurd (omega arith)
table-all Q a b c (suc (suc (suc n))) zero h k = absurd (omega arith)
table-all Q a b c (suc (suc (suc n))) (suc m) h k = absurd (omega arith)

-- every offset of the table lies in 32 .. 240
offset-span : (signalType offset_type : ℕ) → signalType ≤ 2 → offset_type ≤ 1 → Span (pos 32) (pos 240) (offset_of signalType offset_type)
offset-span =
    let at = span (pos 32) (pos 240) in
    table-all (Span (pos 32) (pos 240)) (at (pos 100) (omega arith) (omega arith)) (at (pos 240) (omega arith) (omega arith)) (at (pos 32) (omega arith) (omega arith))

-- every residual lies in its range after its sign and its clamp
residual-span : (seed r : ℤ) → Span (negsuc 31743) (pos 30720) (signed_residual seed r)
unfolding signed_residual clamp
residual-span seed r =
    let z = turned seed r in
    let S = Span (negsuc 31743) (pos 30720) in
    either-all S (lt_z (pos 30720) z) _ _ (λ e. span (negsuc 31743) (pos 30720) (pos 30720) (omega arith) (omega arith)) (λ e.
    either-all S (lt_z z (negsuc 31743)) _ _ (λ d. span (negsuc 31743) (pos 30720) (negsuc 31743) (omega arith) (omega arith)) (λ d.
    span (negsuc 31743) (pos 30720) z (omega (arith, lt-false z (negsuc 31743) d)) (omega (arith, lt-false (pos 30720) z e))))

-- a residual in its range at an entry of the table
pub table-in-range : (r : ℤ) (signalType offset_type : ℕ) → negsuc 31743 ≤ℤ r → r ≤ℤ pos 30720 → signalType ≤ 2 → offset_type ≤ 1
    → InRange r (offset_of signalType offset_type)
table-in-range r signalType offset_type a b h k =
    let o = offset-span signalType offset_type h k in record { low = a; high = b; least = o.low; most = o.high }

-- a residual as it comes, with every seed, after its sign and its clamp
pub sample-in-range : (seed r : ℤ) (signalType offset_type : ℕ) → signalType ≤ 2 → offset_type ≤ 1 → InRange (signed_residual seed r) (offset_of signalType offset_type)
sample-in-range seed r signalType offset_type h k = let a = residual-span seed r in table-in-range _ signalType offset_type a.low a.high h k

-- for every sample: a seed, a residual and a Lambda as they come, and an entry of the table
module _ (seed r Lambda : ℤ) (signalType offset_type : ℕ) (type : signalType ≤ 2) (kind : offset_type ≤ 1) (word : SFits w32 Lambda) where
  there : InRange (signed_residual seed r) (offset_of signalType offset_type)
  there = sample-in-range seed r signalType offset_type type kind

  -- the choice is the rule's
  pub sample-is-rule : choice (signed_residual seed r) Lambda (offset_of signalType offset_type) ≡ ruled (signed_residual seed r) Lambda (offset_of signalType offset_type)
  sample-is-rule = choice-is-rule _ _ _ there word

  -- no step of it leaves its type
  pub sample-is-exact : NothingWraps (signed_residual seed r) Lambda (offset_of signalType offset_type)
  sample-is-exact = nothing-wraps _ _ _ there word

  -- its candidates are neighbours in -32 .. 30
  pub sample-pulses :
      Neighbours (offset_of signalType offset_type) (lower_of (signed_residual seed r -ℤ offset_of signalType offset_type) Lambda) (choice (signed_residual seed r) Lambda (offset_of signalType offset_type))
  sample-pulses = choice-pulses _ _ _ there word

  -- its costs are bounded
  pub sample-costs : Costs (choice (signed_residual seed r) Lambda (offset_of signalType offset_type))
  sample-costs = choice-costs _ _ _ there word

-- the level of a pulse at an entry of the table is 4 times the RFC's value at the same entry
pub table-level-is-rfc : (signalType offset_type : ℕ) (p : ℤ) → signalType ≤ 2 → offset_type ≤ 1
    → level_of (offset_of signalType offset_type) p ≡ value (offset_Q23 signalType offset_type) p *ℤ pos 4
table-level-is-rfc signalType offset_type p h k =
    ap (λ (o : ℤ). level_of o p) (offset-is-rfc signalType offset_type h k) ∙ level-is-rfc (offset_Q23 signalType offset_type) p

-- and rounding it gives the pulse back
pub table-pulse : (signalType offset_type : ℕ) (p : ℤ) → signalType ≤ 2 → offset_type ≤ 1 → pulse_of (level_of (offset_of signalType offset_type) p) ≡ p
table-pulse signalType offset_type p h k =
    let b = offset-span signalType offset_type h k in pulse-of-level (offset_of signalType offset_type) p b.low b.high
