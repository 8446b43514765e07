-- Loops: one turn more for the code's loops, and what holds after each turn of one loop or of two. Branches, searches, and one number more.
-- Assumes nothing.
use Prim.Native.Nat.{ℕ, zero, suc, ◌+◌, ◌-◌, ◌<◌, ◌≤◌}
use native.Mathlib.Omega.{arith}
use native.Mathlib.Decide.{dec_lt}
use native.Mathlib.Nat.{add-zero, add-suc}
use native.Mathlib.Numerals.{add-one}
use mathlib.Core.Path.{◌≡◌, refl, sym, ap, ◌∙◌}
use mathlib.Core.Bool.{Bool, true, false}
use Rattle.fixed.specs.Iter.{iter, either}

-- one turn more
pub iter-more : {A : Type 0} (step : ℕ → A → A) (i : ℕ) (s a : A) → s ≡ iter step i a → step i s ≡ iter step (i + 1) a
iter-more step i s a e = rw add-one (ap (step i) e)

-- what each turn keeps, whatever the state
pub iter-keeps : {A : Type 0} (Q : ℕ → A → Type 0) (f : ℕ → A → A) (n : ℕ) → ((j : ℕ) → j < n → (a : A) → Q j a → Q (suc j) (f j a)) → (a : A) → Q zero a → Q n (iter f n a)
iter-keeps Q f zero h a q = q
iter-keeps Q f (suc n) h a q = h n (omega arith) (iter f n a) (iter-keeps Q f n (λ j p. h j (omega arith)) a q)

-- the same of the states that the loop does come to
pub iter-inv : {A : Type 0} (Q : ℕ → A → Type 0) (f : ℕ → A → A) (n : ℕ) (a : A)
    → ((j : ℕ) → j < n → Q j (iter f j a) → Q (suc j) (iter f (suc j) a)) → Q zero a → Q n (iter f n a)
iter-inv Q f zero a h q = q
iter-inv Q f (suc n) a h q = h n (omega arith) (iter-inv Q f n a (λ j p. h j (omega arith)) q)

-- what holds at each turn of two loops
pub iter-rel : {A B : Type 0} (R : ℕ → A → B → Type 0) (f : ℕ → A → A) (g : ℕ → B → B) (n : ℕ)
    → ((j : ℕ) → j < n → (a : A) (b : B) → R j a b → R (suc j) (f j a) (g j b)) → (a : A) (b : B) → R zero a b → R n (iter f n a) (iter g n b)
iter-rel R f g zero h a b r = r
iter-rel R f g (suc n) h a b r = h n (omega arith) _ _ (iter-rel R f g n (λ j p. h j (omega arith)) a b r)

-- two loops whose turns are equal
pub iter-same : {A : Type 0} (f g : ℕ → A → A) (n : ℕ) (a : A) → ((j : ℕ) → j < n → (s : A) → f j s ≡ g j s) → iter f n a ≡ iter g n a
iter-same f g zero a h = refl
iter-same f g (suc n) a h =
    h n (omega arith) (iter f n a) ∙ ap (g n) (iter-same f g n a (λ j p. h j (omega arith)))

-- m + n turns are m turns, and then n more that count from m
pub iter-add : {A : Type 0} (f : ℕ → A → A) (m n : ℕ) (a : A) → iter f (m + n) a ≡ iter (λ j. f (m + j)) n (iter f m a)
iter-add f m zero a = ap (λ (k : ℕ). iter f k a) (add-zero m)
iter-add f m (suc n) a = ap (λ (k : ℕ). iter f k a) (add-suc m n) ∙ ap (f (m + n)) (iter-add f m n a)

-- ---- a branch
-- what holds of both sides
pub either-all : {A : Type 0} (Q : A → Type 0) (c : Bool) (x y : A) → (c ≡ true → Q x) → (c ≡ false → Q y) → Q (either c x y)
either-all Q true x y p q = p refl
either-all Q false x y p q = q refl

-- a branch with one thing on both sides
pub either-alike : {A : Type 0} (c : Bool) (x : A) → either c x x ≡ x
either-alike true x = refl
either-alike false x = refl

-- what holds of the two sides of two branches by one test
pub either-rel : {A B : Type 0} (R : A → B → Type 0) (c : Bool) (x y : A) (u v : B) → (c ≡ true → R x u) → (c ≡ false → R y v) → R (either c x y) (either c u v)
either-rel R true x y u v h k = h refl
either-rel R false x y u v h k = k refl

-- what follows from each outcome of a test
pub cases : {A : Type 0} (b : Bool) → (b ≡ true → A) → (b ≡ false → A) → A
cases true f g = f refl
cases false f g = g refl

-- a test doesn't come out both ways
pub not-both : {A : Type 0} (b : Bool) → b ≡ true → b ≡ false → A
not-both b e f = let z : true ≡ false = sym e ∙ f in let w : ◌≡◌ {A = ℕ} 0 1 = cc in absurd (omega arith)

-- ---- a search from the first to the last, that moves on where a test says so: what it finds is one of the n
pub found-less : (test : ℕ → ℕ → Bool) (n : ℕ) → 0 < n → iter (λ k w. either (test k w) k w) n 0 < n
found-less test n h =
    let last : iter (λ k w. either (test k w) k w) n 0 ≤ n - 1 =
    iter-keeps (λ k w. w ≤ k - 1) (λ k w. either (test k w) k w) n
    (λ k b w below. either-all (λ v. v ≤ suc k - 1) (test k w) k w (λ e. omega arith) (λ e. omega arith)) 0 (omega arith) in
    omega arith

-- ---- one number more
-- j is below k, or k itself
below-or-at : (Q : ℕ → Type 0) (j k : ℕ) → Dec (j < k) → j < suc k → (j < k → Q j) → Q k → Q j
below-or-at Q j k (yes b) h before here = before b
below-or-at Q j k (no n) h before here = let e : j ≡ k = omega arith in rw e here

-- what holds of each number below k, and of k, holds of each below k + 1
pub one_more : (Q : ℕ → Type 0) (j k : ℕ) → j < suc k → (j < k → Q j) → Q k → Q j
one_more Q j k h before here = below-or-at Q j k (dec_lt j k) h before here
