-- The conditions of the list, from the tests and back. Assumes nothing.
use Prim.Native.Nat.{ℕ}
use native.Mathlib.Omega.{arith}
use mathlib.Core.Path.{◌≡◌, refl, sym, ◌∙◌}
use mathlib.Core.Bool.{Bool, true, false, not, ◌&&◌}
use mathlib.Core.Logic.{◌↔◌}
use lib.IntN.{ℤ, pos}
use borrow.Author.Tests.{not-true, not-false}
use Rattle.limits.specs.Count.{same_z}
use Rattle.limits.proofs.Laws.{same_true, same_refl}
use Rattle.steps.specs.Call.{Call, voiced_by, interpolated_by, given_by, given_of}
use Rattle.counts.specs.Conditions.{voiced, one_row, row_zero_only, no_lag}
use Rattle.counts.specs.Agree.{Voiced, OneRow, RowZeroOnly, NoLag}

-- ---- tests
-- a test that fails doesn't hold
pub not-both : {b : Bool} → b ≡ false → b ≡ true → ⊥
not-both e q = let z : true ≡ false = sym q ∙ e in let w : ◌≡◌ {A = ℕ} 0 1 = cc in omega arith

pub and-elim : (a b : Bool) → (a && b) ≡ true → (a ≡ true) × (b ≡ true)
and-elim true b e = (refl, e)
and-elim false b e = absurd (not-both refl e)

-- ---- the test of type 2 holds, or it fails
pub is-voiced : (c : Call) → same_z c.settings.signalType (pos 2) ≡ true → Voiced c
unfolding voiced voiced_by
is-voiced c e = e

pub not-voiced : (c : Call) → same_z c.settings.signalType (pos 2) ≡ false → Voiced c → ⊥
unfolding voiced voiced_by
not-voiced c e = not-both e

-- ---- of a call, as its counts have it
pub voiced-is : (c : Call) → (given_of c).voiced ≡ true → Voiced c
unfolding given_by voiced
voiced-is c e = e

pub quiet_is : (c : Call) → (given_of c).voiced ≡ false → Voiced c → ⊥
unfolding given_by voiced
quiet_is c e = not-both e

pub two-rows : (c : Call) → (given_of c).interpolated ≡ true → OneRow c → ⊥
unfolding given_by interpolated_by one_row
two-rows c e = not-both (not-true (same_z c.settings.NLSFInterpCoef_Q2 (pos 4)) e)

pub one-row : (c : Call) → (given_of c).interpolated ≡ false → OneRow c
unfolding given_by interpolated_by one_row
one-row c e = not-false (same_z c.settings.NLSFInterpCoef_Q2 (pos 4)) e

-- where row 1 is not reached, n is 2 and there are two rows
pub zero-only-two : (c : Call) → RowZeroOnly c → c.settings.nb_subfr ≡ pos 2
unfolding row_zero_only
zero-only-two c e = same_true _ _ (and-elim _ (not (one_row c.settings)) e).0

pub zero-only-rows : (c : Call) → RowZeroOnly c → OneRow c → ⊥
unfolding row_zero_only
zero-only-rows c e = not-both (not-true (one_row c.settings) (and-elim (same_z c.settings.nb_subfr _) _ e).1)

-- no lag: not voiced
pub no-lag-quiet : (c : Call) → NoLag c → Voiced c → ⊥
unfolding no_lag
no-lag-quiet c e = not-both (not-true (voiced c.settings) (and-elim _ (same_z c.state.lagPrev _) e).0)

pub no-lag-zero : (c : Call) → NoLag c → c.state.lagPrev ≡ pos 0
unfolding no_lag
no-lag-zero c e = same_true _ _ (and-elim (not (voiced c.settings)) _ e).1

-- ---- each condition holds exactly where its numbers are the ones named
same-exactly : (a b : ℤ) → (same_z a b ≡ true) ↔ (a ≡ b)
same-exactly a b = (same_true a b, λ e. rw e (same_refl b))

pub voiced-exactly : (c : Call) → Voiced c ↔ (c.settings.signalType ≡ pos 2)
unfolding voiced voiced_by
voiced-exactly c = same-exactly c.settings.signalType (pos 2)

pub one-row-exactly : (c : Call) → OneRow c ↔ (c.settings.NLSFInterpCoef_Q2 ≡ pos 4)
unfolding one_row
one-row-exactly c = same-exactly c.settings.NLSFInterpCoef_Q2 (pos 4)

-- both, the second failing
both-when : (a b : Bool) → a ≡ true → (b ≡ true → ⊥) → (a && not b) ≡ true
both-when true true e n = absurd (n refl)
both-when true false e n = refl
both-when false b e n = e

pub zero-only-exactly : (c : Call) → RowZeroOnly c ↔ ((c.settings.nb_subfr ≡ pos 2) × (OneRow c → ⊥))
unfolding row_zero_only
zero-only-exactly c = (
  λ e. (zero-only-two c e, zero-only-rows c e),
  λ h. both-when (same_z c.settings.nb_subfr (pos 2)) (one_row c.settings) ((same-exactly c.settings.nb_subfr (pos 2)).1 h.0) h.1,
)

quiet-when : (a b : Bool) → (a ≡ true → ⊥) → b ≡ true → (not a && b) ≡ true
quiet-when true b n e = absurd (n refl)
quiet-when false b n e = e

pub no-lag-exactly : (c : Call) → NoLag c ↔ ((Voiced c → ⊥) × (c.state.lagPrev ≡ pos 0))
unfolding no_lag
no-lag-exactly c = (
  λ e. (no-lag-quiet c e, no-lag-zero c e),
  λ h. quiet-when (voiced c.settings) (same_z c.state.lagPrev (pos 0)) h.0 ((same-exactly c.state.lagPrev (pos 0)).1 h.1),
)
