-- A search from the first to the last for what is best: it finds the first of the best. By any order, and for the least and the most of n
-- numbers. Assumes nothing.
use Prim.Native.Nat.{ℕ, suc, ◌<◌}
use native.Mathlib.Omega.{arith}
use mathlib.Core.Path.{◌≡◌, refl}
use mathlib.Core.Bool.{Bool, true, false}
use lib.IntN.{ℤ}
use lib.Signed.{lt_z}
use Rattle.fixed.specs.Iter.{iter, either}
use Rattle.fixed.proofs.Iters.{iter-keeps, either-all, one_more}
use Rattle.fixed.proofs.Lin.{lt-true, lt-false}

-- ---- a search that moves on where one beats what was found
-- what is asked of `beats`: no two beat each other, and what beats w beats all that do not beat w
record Order (beats : ℕ → ℕ → Bool) : Type 0 where
  not-both : (j k : ℕ) → beats k j ≡ true → beats j k ≡ false
  over : (j k w : ℕ) → beats k w ≡ true → beats j w ≡ false → beats k j ≡ true

-- w is the first of the best of n
pub record First (beats : ℕ → ℕ → Bool) (n w : ℕ) : Type 0 where
  pub best : (j : ℕ) → j < n → beats j w ≡ false
  pub lowest : (j : ℕ) → j < w → beats w j ≡ true

never-itself : (b : Bool) → (b ≡ true → b ≡ false) → b ≡ false
never-itself true h = h refl
never-itself false h = refl

-- one more in the search
first-turn : (beats : ℕ → ℕ → Bool) → Order beats → (k w : ℕ) → First beats k w → First beats (suc k) (either (beats k w) k w)
first-turn beats o k w f =
    either-all (First beats (suc k)) (beats k w) k w
    (λ e.
    let wins : (j : ℕ) → j < k → beats k j ≡ true = λ j b. o.over j k w e (f.best j b) in
    record {
      best = λ j h. one_more (λ i. beats i k ≡ false) j k h (λ b. o.not-both j k (wins j b)) (never-itself (beats k k) (o.not-both k k));
      lowest = wins;
    })
    (λ e. record { best = λ j h. one_more (λ i. beats i w ≡ false) j k h (f.best j) e; lowest = f.lowest })

-- so the search of n finds the first of the best
first_of : (beats : ℕ → ℕ → Bool) → Order beats → (n : ℕ) → First beats n (iter (λ k w. either (beats k w) k w) n 0)
first_of beats o n =
    iter-keeps (First beats) (λ k w. either (beats k w) k w) n (λ k b w. first-turn beats o k w) 0
    (record { best = λ j h. absurd (omega arith); lowest = λ j h. absurd (omega arith) })

-- ---- by size: the less beats, or the more
-- a test that cannot fail, and one that cannot hold
is_below : (a b : ℤ) (t : Bool) → lt_z a b ≡ t → (lt_z a b ≡ false → ⊥) → t ≡ true
is_below a b true e h = refl
is_below a b false e h = absurd (h e)

not-below : (a b : ℤ) (t : Bool) → lt_z a b ≡ t → (lt_z a b ≡ true → ⊥) → t ≡ false
not-below a b true e h = absurd (h e)
not-below a b false e h = refl

below-once : (a b : ℤ) → lt_z a b ≡ true → lt_z b a ≡ false
below-once a b e = not-below b a (lt_z b a) refl (λ f. let x = lt-true a b e in let y = lt-true b a f in omega arith)

below-over : (a b c : ℤ) → lt_z a c ≡ true → lt_z b c ≡ false → lt_z a b ≡ true
below-over a b c e f =
    is_below a b (lt_z a b) refl (λ g. let x = lt-true a c e in let y = lt-false b c f in let z = lt-false a b g in omega arith)

above-over : (a b c : ℤ) → lt_z c a ≡ true → lt_z c b ≡ false → lt_z b a ≡ true
above-over a b c e f =
    is_below b a (lt_z b a) refl (λ g. let x = lt-true c a e in let y = lt-false c b f in let z = lt-false b a g in omega arith)

-- the first of the least: none is less
pub least-of : (z : ℕ → ℤ) (n : ℕ) → First (λ k w. lt_z (z k) (z w)) n (iter (λ k w. either (lt_z (z k) (z w)) k w) n 0)
least-of z n =
    first_of (λ k w. lt_z (z k) (z w))
    (record { not-both = λ j k. below-once (z k) (z j); over = λ j k w. below-over (z k) (z j) (z w) }) n

-- the first of the most: none is more
pub most-of : (z : ℕ → ℤ) (n : ℕ) → First (λ k w. lt_z (z w) (z k)) n (iter (λ k w. either (lt_z (z w) (z k)) k w) n 0)
most-of z n =
    first_of (λ k w. lt_z (z w) (z k))
    (record { not-both = λ j k. below-once (z j) (z k); over = λ j k w. above-over (z k) (z j) (z w) }) n
