-- There are at most four paths: so of any three one is x or y, where these are two. Assumes nothing.
use Prim.Native.Nat.{ℕ, suc, ◌-◌, ◌<◌, ◌≤◌}
use native.Mathlib.Omega.{arith}
use mathlib.Core.Path.{◌≡◌, refl}
use mathlib.Core.Logic.{◌≢◌, ◌⊎◌, inl, inr}
use lib.Dec.{ltb, eqb}
use borrow.Author.Tests.{ltb-true, ltb-false, eqb-true, eqb-false}
use Rattle.fixed.specs.Iter.{either}
use Rattle.fixed.proofs.Iters.{cases}

-- ---- five numbers below 4 are not all apart
-- the numbers but x, closed up
shrink : ℕ → ℕ → ℕ
shrink x z = either (ltb z x) z (z - 1)

shrink-less : (x z m : ℕ) → x < suc m → z < suc m → z ≢ x → shrink x z < m
unfolding shrink
shrink-less x z m h k e = cases (ltb z x) (λ q. rw q (omega (arith, ltb-true z x q))) (λ q. rw q (omega (arith, ltb-false z x q)))

shrink-apart : (x a b : ℕ) → a ≢ x → b ≢ x → a ≢ b → shrink x a ≢ shrink x b
unfolding shrink
shrink-apart x a b p q r =
    cases (ltb a x)
    (λ e. let y = ltb-true a x e in cases (ltb b x) (λ f. rw (e, f) r) (λ f. rw (e, f) (let z = ltb-false b x f in λ w. omega arith)))
    (λ e.
    let y = ltb-false a x e in
    cases (ltb b x) (λ f. rw (e, f) (let z = ltb-true b x f in λ w. omega arith)) (λ f. rw (e, f) (let z = ltb-false b x f in λ w. omega arith)))

three-of-2 : (i j k : ℕ) → i < 2 → j < 2 → k < 2 → i ≢ j → j ≢ k → i ≢ k → ⊥
three-of-2 i j k a b c p q r = omega arith

four-of-3 : (i j k x : ℕ) → i < 3 → j < 3 → k < 3 → x < 3 → i ≢ j → j ≢ k → i ≢ k → i ≢ x → j ≢ x → k ≢ x → ⊥
four-of-3 i j k x a b c d p q r s t u =
    three-of-2 (shrink x i) (shrink x j) (shrink x k) (shrink-less x i 2 d a s) (shrink-less x j 2 d b t) (shrink-less x k 2 d c u)
    (shrink-apart x i j s t p)
    (shrink-apart x j k t u q)
    (shrink-apart x i k s u r)

five-of-4 : (i j k x y : ℕ) → i < 4 → j < 4 → k < 4 → x < 4 → y < 4
    → i ≢ j → j ≢ k → i ≢ k → i ≢ x → j ≢ x → k ≢ x → i ≢ y → j ≢ y → k ≢ y → x ≢ y → ⊥
five-of-4 i j k x y a b c d e p q r s t u f g h m =
    four-of-3 (shrink y i) (shrink y j) (shrink y k) (shrink y x) (shrink-less y i 3 e a f) (shrink-less y j 3 e b g) (shrink-less y k 3 e c h)
    (shrink-less y x 3 e d m)
    (shrink-apart y i j f g p)
    (shrink-apart y j k g h q)
    (shrink-apart y i k f h r)
    (shrink-apart y i x f m s)
    (shrink-apart y j x g m t)
    (shrink-apart y k x h m u)

-- ---- so one of three is x or y
pub one_of : {A : Type 0} (i j k x y n : ℕ) → n ≤ 4 → i < n → j < n → k < n → x < n → y < n → i ≢ j → j ≢ k → i ≢ k → x ≢ y
    → ((z : ℕ) → (z ≡ i) ⊎ ((z ≡ j) ⊎ (z ≡ k)) → (z ≡ x) ⊎ (z ≡ y) → A) → A
one_of {A} i j k x y n h a b c d e p q r m f =
    try i (inl refl)
    (λ s s'.
    try j (inr (inl refl))
    (λ t t'.
    try k (inr (inr refl))
    (λ u u'. absurd (five-of-4 i j k x y (omega arith) (omega arith) (omega arith) (omega arith) (omega arith) p q r s t u s' t' u' m))))
  where
    try : (z : ℕ) → (z ≡ i) ⊎ ((z ≡ j) ⊎ (z ≡ k)) → (z ≢ x → z ≢ y → A) → A
    try z o g =
        cases (eqb z x) (λ e. f z o (inl (eqb-true z x e)))
        (λ e. cases (eqb z y) (λ e'. f z o (inr (eqb-true z y e'))) (λ e'. g (eqb-false z x e) (eqb-false z y e')))
