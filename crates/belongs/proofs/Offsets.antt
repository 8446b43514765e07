-- Running costs as numbers: after t samples a cost is counted from -1,044,180 t on. In a frame nothing wraps. Assumes nothing.
use Prim.Native.Nat.{ℕ, suc, ◌+◌, ◌-◌, ◌*◌, ◌≤◌}
use native.Mathlib.Omega.{arith}
use mathlib.Core.Path.{◌≡◌, refl, sym, ◌∙◌, subst}
use mathlib.Core.Bool.{Bool, true, false, not}
use lib.Dec.{ltb}
use borrow.Author.Tests.{ltb-true, ltb-false}
use lib.IntN.{ℤ, pos, ◌+ℤ◌}
use lib.Signed.{lt_z}
use mir.Syntax.{w32}
use mir.Val.{SFits}
use Rattle.fixed.specs.Iter.{either}
use Rattle.fixed.specs.Wrap.{wrap32}
use Rattle.fixed.proofs.Iters.{cases}
use Rattle.fixed.proofs.Lin.{P, N, add-lin, lt-true, lt-false, sfits-of-lin}
use Rattle.fixed.proofs.Wraps.{wrap32-id}
use Rattle.path.specs.Taken.{penalty}
use Rattle.belongs.specs.Costs.{range, least_penalty, fine, extra}

-- the penalty that there is, as a number; and it suffices
pub penalty-is : penalty ≡ pos fine
penalty-is = refl

pub fine-enough : least_penalty ≤ fine
fine-enough = omega arith

-- ---- z is the number m, counted so
pub record Off (t : ℕ) (z : ℤ) (m : ℕ) : Type 0 where
  pub is : P z + 1044180 * t ≡ m + N z

-- with at most 13 fines it is no larger than an i32
pub off-fits : {t m : ℕ} {z : ℤ} → Off t z m → t ≤ 320 → m ≤ t * range + 13 * fine → SFits w32 z
off-fits {t} {m} {z} o h k = let a = o.is in sfits-of-lin w32 z (omega arith) (omega arith)

pub off-wrap : {t m : ℕ} {z : ℤ} → Off t z m → t ≤ 320 → m ≤ t * range + 13 * fine → Off t (wrap32 z) m
off-wrap {t} {m} {z} o h k = subst (λ (y : ℤ). Off t y m) (sym (wrap32-id (off-fits o h k))) o

-- one cost more
pub off-add : {t m : ℕ} {z : ℤ} → Off t z m → (c : ℤ) (a : ℕ) → P c + 1044180 ≡ a + N c → Off (suc t) (z +ℤ c) (m + a)
off-add {t} {m} {z} o c a e = let b = o.is in record { is = omega (arith, add-lin z c) }

-- the penalty
pub off-plus : {t m : ℕ} {z : ℤ} → Off t z m → Off t (z +ℤ penalty) (m + fine)
off-plus {t} {m} {z} o = let b = o.is in record { is = omega (arith, add-lin z penalty) }

-- .. where there is one
pub off-fine : {t m : ℕ} {z : ℤ} (same : Bool) → Off t z m → t ≤ 320 → m + extra fine (not same) ≤ t * range + 13 * fine
    → Off t (either same z (wrap32 (z +ℤ penalty))) (m + extra fine (not same))
off-fine {t} {m} {z} true o h k = let b = o.is in record { is = omega arith }
off-fine {t} {m} {z} false o h k = off-wrap (off-plus o) h k

-- ---- tests, and the number that a word is
pub off-lt : {t m m' : ℕ} {z z' : ℤ} → Off t z m → Off t z' m' → lt_z z z' ≡ ltb m m'
off-lt {t} {m} {m'} {z} {z'} o o' =
    cases (lt_z z z')
    (λ e.
    let a = lt-true z z' e in
    e ∙ cases (ltb m m') (λ q. sym q) (λ q. absurd (omega (arith, ltb-false m m' q, o.is, o'.is))))
    (λ e.
    let a = lt-false z z' e in
    e ∙ cases (ltb m m') (λ q. absurd (omega (arith, ltb-true m m' q, o.is, o'.is))) (λ q. sym q))

pub number : ℕ → ℤ → ℕ
number t z = P z + 1044180 * t - N z

pub number_is : {t m : ℕ} {z : ℤ} → Off t z m → number t z ≡ m
unfolding number
number_is {t} {m} {z} o = let b = o.is in omega arith
