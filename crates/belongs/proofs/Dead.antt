-- How many of n paths are dead. Assumes nothing.
use Prim.Native.Nat.{ℕ, zero, suc, ◌+◌, ◌<◌, ◌≤◌}
use native.Mathlib.Omega.{arith}
use mathlib.Core.Path.{◌≡◌, refl, sym, ap, ◌∙◌}
use mathlib.Core.Logic.{◌≢◌}
use mathlib.Core.Bool.{Bool, true, false}
use lib.Dec.{ltb}
use borrow.Author.Tests.{ltb-true, ltb-false}
use Rattle.fixed.specs.Iter.{either}
use Rattle.fixed.proofs.Iters.{cases, not-both, one_more}
use Rattle.belongs.specs.Costs.{out_of}

-- ---- one path
unit : Bool → ℕ
unit b = either b 0 1

unit-dead : {b : Bool} → b ≡ false → unit b ≡ 1
unfolding unit
unit-dead e = ap (λ (z : Bool). either z 0 1) e

unit-alive : {b : Bool} → b ≡ true → unit b ≡ 0
unfolding unit
unit-alive e = ap (λ (z : Bool). either z 0 1) e

unit-most : (b : Bool) → unit b ≤ 1
unit-most b = cases b (λ e. omega (arith, unit-alive e)) (λ e. omega (arith, unit-dead e))

-- the count, path by path
count-0 : (a : ℕ → Bool) → out_of a 0 ≡ 0
unfolding out_of
count-0 a = refl

count_next : (a : ℕ → Bool) (n : ℕ) → out_of a (suc n) ≡ out_of a n + unit (a n)
unfolding out_of unit
count_next a n = refl

-- ---- none is dead, or one that can be named
none-dead : (a : ℕ → Bool) (n : ℕ) → out_of a n ≡ 0 → (k : ℕ) → k < n → a k ≡ true
none-dead a zero e k h = absurd (omega arith)
none-dead a (suc n) e k h =
    let z = count_next a n in
    one_more (λ i. a i ≡ true) k n h (λ q. none-dead a n (omega arith) k q) (cases (a n) (λ y. y) (λ y. absurd (omega (arith, unit-dead y))))

pub record Dead (a : ℕ → Bool) (n : ℕ) : Type 0 where
  pub k : ℕ
  pub in-n : k < n
  pub dead : a k ≡ false

one-dead : (a : ℕ → Bool) (n : ℕ) → 0 < out_of a n → Dead a n
one-dead a zero h = absurd (omega (arith, count-0 a))
one-dead a (suc n) h =
    cases (a n)
    (λ e.
    let z = one-dead a n (omega (arith, unit-alive e, count_next a n)) in
    record { k = z.k; in-n = omega (arith, z.in-n); dead = z.dead })
    (λ e. record { k = n; in-n = omega arith; dead = e })

-- so there are two cases
pub none-or-one : {A : Type 0} (a : ℕ → Bool) (n : ℕ) → (Dead a n → A) → (((k : ℕ) → k < n → a k ≡ true) → A) → A
none-or-one a n f g =
    cases (ltb 0 (out_of a n)) (λ q. f (one-dead a n (ltb-true 0 (out_of a n) q))) (λ q. g (none-dead a n (omega (arith, ltb-false 0 (out_of a n) q))))

-- where all live the count is 0, where one doesn't it isn't
pub all-alive : (a : ℕ → Bool) (n : ℕ) → ((k : ℕ) → k < n → a k ≡ true) → out_of a n ≡ 0
all-alive a zero f = count-0 a
all-alive a (suc n) f = omega (arith, count_next a n, unit-alive (f n (omega arith)), all-alive a n (λ k h. f k (omega arith)))

pub some-dead : (a : ℕ → Bool) (n k : ℕ) → k < n → a k ≡ false → 1 ≤ out_of a n
some-dead a n k h e =
    cases (ltb 0 (out_of a n)) (λ q. ltb-true 0 (out_of a n) q)
    (λ q. not-both (a k) (none-dead a n (omega (arith, ltb-false 0 (out_of a n) q)) k h) e)

-- ---- two counts
-- the more live, the fewer are dead
pub fewer : (a b : ℕ → Bool) (n : ℕ) → ((k : ℕ) → k < n → a k ≡ false → b k ≡ false) → out_of a n ≤ out_of b n
fewer a b zero f = omega (arith, count-0 a, count-0 b)
fewer a b (suc n) f =
    let z = fewer a b n (λ k h. f k (omega arith)) in
    let x = count_next a n in
    let y = count_next b n in
    cases (a n) (λ e. omega (arith, unit-alive e)) (λ e. omega (arith, unit-dead e, unit-dead (f n (omega arith) e)))

-- one that was dead lives now
pub one_less : (a b : ℕ → Bool) (n to : ℕ) → to < n → a to ≡ false → b to ≡ true → ((k : ℕ) → k < n → k ≢ to → b k ≡ a k) → suc (out_of b n) ≤ out_of a n
one_less a b zero to h d l f = absurd (omega arith)
one_less a b (suc n) to h d l f =
    let x = count_next a n in
    let y = count_next b n in
    one_more (λ i. a i ≡ false → b i ≡ true → ((k : ℕ) → k < suc n → k ≢ i → b k ≡ a k) → suc (out_of b (suc n)) ≤ out_of a (suc n)) to n h
    (λ e d l f.
    let q : unit (b n) ≡ unit (a n) = ap unit (f n (omega arith) (λ v. omega arith)) in
    omega (arith, one_less a b n to e d l (λ k z. f k (omega arith))))
    (λ d l f. omega (arith, unit-dead d, unit-alive l, fewer b a n (λ k z w. sym (f k (omega arith) (λ v. omega arith)) ∙ w)))
    d l f

-- ---- not all are dead
count_most : (a : ℕ → Bool) (n : ℕ) → out_of a n ≤ n
count_most a zero = omega (arith, count-0 a)
count_most a (suc n) = omega (arith, count_next a n, count_most a n, unit-most (a n))

pub some_left : (a : ℕ → Bool) (n w : ℕ) → w < n → a w ≡ true → suc (out_of a n) ≤ n
some_left a zero w h e = absurd (omega arith)
some_left a (suc n) w h e =
    let x = count_next a n in
    one_more (λ i. a i ≡ true → suc (out_of a (suc n)) ≤ suc n) w n h
    (λ q e. omega (arith, some_left a n w q e, unit-most (a n)))
    (λ e. omega (arith, unit-alive e, count_most a n))
    e
