-- The lowest number of which a test holds: what it says, and what says that it is the lowest. Refusals are numbered so. Assumes nothing.
use Prim.Native.Nat.{ℕ, zero, suc, ◌+◌, ◌≤◌, ◌<◌}
use native.Mathlib.Omega.{arith}
use native.Mathlib.Nat.{eq-or-lt_of_le}
use mathlib.Core.Path.{◌≡◌, refl, sym, subst}
use mathlib.Core.Logic.{◌↔◌, ⊎_elim}
use mathlib.Core.Bool.{Bool, true, false}
use Rattle.fixed.specs.Iter.{either}

-- the lowest of the m numbers from k on of which p holds, else 0
abbrev pub lowest : (ℕ → Bool) → ℕ → ℕ → ℕ
lowest p zero k = 0
lowest p (suc m) k = either (p k) k (lowest p m (suc k))

-- p holds of none of the numbers from k up to below e
abbrev None : (ℕ → Bool) → ℕ → ℕ → Type 0
None p k e = (j : ℕ) → k ≤ j → j < e → p j ≡ false

-- the number k itself beside those above it
wider : (p : ℕ → Bool) (k e : ℕ) → p k ≡ false → None p (suc k) e → None p k e
wider p k e h q j l u =
    ⊎_elim (λ (s : k ≡ j). subst (λ (i : ℕ). p i ≡ false) s h) (λ (s : k < j). q j (omega arith) u) (eq-or-lt_of_le l)

-- ---- one number looked at, r what is found above it
none-step : (p : ℕ → Bool) (k e r : ℕ) (b : Bool) → p k ≡ b → 0 < k → either b k r ≡ 0 → (r ≡ 0 → None p (suc k) e) → None p k e
none-step p k e r true w h x q = absurd (omega arith)
none-step p k e r false w h x q = wider p k e w (q x)

some-step : (p : ℕ → Bool) (k a r : ℕ) (b : Bool) → p k ≡ b → either b k r ≡ a → (r ≡ a → (p a ≡ true) × None p (suc k) a) → (p a ≡ true) × None p k a
some-step p k a r true w x q = (subst (λ (i : ℕ). p i ≡ true) x w, (λ j l u. absurd (omega arith)))
some-step p k a r false w x q = ((q x).0, wider p k a w (q x).1)

-- ---- what the lowest says, and what says that it is the lowest
none_of : (p : ℕ → Bool) (m k : ℕ) → 0 < k → lowest p m k ≡ 0 → None p k (k + m)
none_of p zero k h e = λ j l u. absurd (omega arith)
none_of p (suc m) k h e =
    none-step p k (k + suc m) (lowest p m (suc k)) (p k) refl h e
    (λ x j l u. none_of p m (suc k) (omega arith) x j l (omega arith))

some_of : (p : ℕ → Bool) (m k a : ℕ) → 0 < a → lowest p m k ≡ a → (p a ≡ true) × None p k a
some_of p zero k a g e = absurd (omega arith)
some_of p (suc m) k a g e = some-step p k a (lowest p m (suc k)) (p k) refl e (λ x. some_of p m (suc k) a g x)

of_none : (p : ℕ → Bool) (m k : ℕ) → None p k (k + m) → lowest p m k ≡ 0
of_none p zero k q = refl
of_none p (suc m) k q =
    rw (q k (omega arith) (omega arith)) (of_none p m (suc k) (λ j l u. q j (omega arith) (omega arith)))

of_some : (p : ℕ → Bool) (m k a : ℕ) → k ≤ a → a < k + m → p a ≡ true → None p k a → lowest p m k ≡ a
of_some p zero k a l u h q = absurd (omega arith)
of_some p (suc m) k a l u h q =
    ⊎_elim (λ (s : k ≡ a). rw (subst (λ (i : ℕ). p i ≡ true) (sym s) h) s)
    (λ (s : k < a). rw (q k (omega arith) s) (of_some p m (suc k) a (omega arith) (omega arith) h (λ j v w. q j (omega arith) w)))
    (eq-or-lt_of_le l)

-- ---- the numbers 1 to m, 0 for none
-- number k is the lowest exactly when p holds of it and of none below it
pub exactly-lowest : (p : ℕ → Bool) (m k : ℕ) → 1 ≤ k → k ≤ m
    → (lowest p m 1 ≡ k) ↔ ((p k ≡ true) × ((j : ℕ) → 1 ≤ j → j < k → p j ≡ false))
exactly-lowest p m k l u =
    ((λ e. some_of p m 1 k (omega arith) e), (λ h. of_some p m 1 k l (omega arith) h.0 h.1))

-- there is none exactly when p holds of none
pub exactly-none : (p : ℕ → Bool) (m : ℕ) → (lowest p m 1 ≡ 0) ↔ ((j : ℕ) → 1 ≤ j → j ≤ m → p j ≡ false)
exactly-none p m =
    ((λ e j l u. none_of p m 1 (omega arith) e j l (omega arith)), (λ h. of_none p m 1 (λ j l u. h j l (omega arith))))
