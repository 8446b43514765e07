-- Whose heirs the living paths are. When a run of samples with a dead path begins, at place x, there are at most four pasts; each living path has one of
-- them below x. Where a living path dies, for a word in which it differs from the winner, its past dies out: so a run is short. Assumes nothing.
use Prim.Native.Nat.{ℕ, zero, suc, ◌<◌, ◌≤◌}
use native.Mathlib.Omega.{arith}
use mathlib.Core.Path.{◌≡◌, refl, sym, ap, ◌∙◌}
use mathlib.Core.Logic.{◌⊎◌, inl, inr}
use mathlib.Core.Bool.{true, false}
use mathlib.Core.List.{List, [], ◌∷◌}
use lib.ListN.{length}
use lib.IntN.{ℤ}
use Rattle.fixed.specs.Iter.{either}
use Rattle.fixed.proofs.Iters.{cases, one_more}
use Rattle.penalty.specs.Penalty.{same_word}

-- ---- heirs
-- the words of a path below x are those of a past in the list
unfoldable pub Heir : ℕ → (ℕ → ℤ) → List (ℕ → ℤ) → Type 0
Heir x τ [] = ⊥
Heir x τ (H ∷ P) = ((h : ℕ) → h < x → τ h ≡ H h) ⊎ Heir x τ P

-- where there is an heir there is a past
pub heir-some : (x : ℕ) (τ : ℕ → ℤ) (P : List (ℕ → ℤ)) → Heir x τ P → 1 ≤ length P
unfolding Heir
heir-some x τ [] e = absurd e
heir-some x τ (H ∷ P) e = omega arith

pub heir-one : (x : ℕ) (τ H : ℕ → ℤ) → ((h : ℕ) → h < x → τ h ≡ H h) → Heir x τ (H ∷ [])
unfolding Heir
heir-one x τ H f = inl f

-- another path with the same words
pub heir-same : (x : ℕ) (τ τ' : ℕ → ℤ) (P : List (ℕ → ℤ)) → ((h : ℕ) → h < x → τ' h ≡ τ h) → Heir x τ P → Heir x τ' P
unfolding Heir
heir-same x τ τ' [] f e = e
heir-same x τ τ' (H ∷ P) f (inl e) = inl (λ h k. f h k ∙ e h k)
heir-same x τ τ' (H ∷ P) f (inr e) = inr (heir-same x τ τ' P f e)

-- ---- pasts that die out
-- the pasts that have the word v at place h
unfoldable pub culled : ℕ → ℤ → List (ℕ → ℤ) → List (ℕ → ℤ)
culled h v [] = []
culled h v (H ∷ P) = either (same_word (H h) v) (H ∷ culled h v P) (culled h v P)

culled-most : (h : ℕ) (v : ℤ) (P : List (ℕ → ℤ)) → length (culled h v P) ≤ length P
unfolding culled
culled-most h v [] = omega arith
culled-most h v (H ∷ P) =
    let z = culled-most h v P in
    cases (same_word (H h) v) (λ e. rw e (omega arith)) (λ e. rw e (omega arith))

-- a path that has the word stays an heir
pub culled-heir : (x h : ℕ) (v : ℤ) (τ : ℕ → ℤ) (P : List (ℕ → ℤ)) → h < x → same_word (τ h) v ≡ true → Heir x τ P → Heir x τ (culled h v P)
unfolding Heir culled
culled-heir x h v τ [] k s e = e
culled-heir x h v τ (H ∷ P) k s (inl e) =
    let z : same_word (H h) v ≡ true = ap (λ (y : ℤ). same_word y v) (sym (e h k)) ∙ s in
    rw z (inl e)
culled-heir x h v τ (H ∷ P) k s (inr e) =
    let z = culled-heir x h v τ P k s e in
    cases (same_word (H h) v) (λ q. rw q (inr z)) (λ q. rw q z)

-- where a path has another word, its past is gone
pub culled-less : (x h : ℕ) (v : ℤ) (τ : ℕ → ℤ) (P : List (ℕ → ℤ)) → h < x → same_word (τ h) v ≡ false → Heir x τ P → suc (length (culled h v P)) ≤ length P
unfolding Heir culled
culled-less x h v τ [] k s e = absurd e
culled-less x h v τ (H ∷ P) k s (inl e) =
    let z : same_word (H h) v ≡ false = ap (λ (y : ℤ). same_word y v) (sym (e h k)) ∙ s in
    let y = culled-most h v P in
    rw z (omega arith)
culled-less x h v τ (H ∷ P) k s (inr e) =
    let z = culled-less x h v τ P k s e in
    cases (same_word (H h) v) (λ q. rw q (omega arith)) (λ q. rw q (omega arith))

-- ---- the pasts of n paths: as many, and each path is an heir
unfoldable pub all-pasts : (ℕ → ℕ → ℤ) → ℕ → List (ℕ → ℤ)
all-pasts τ zero = []
all-pasts τ (suc n) = τ n ∷ all-pasts τ n

pub all-long : (τ : ℕ → ℕ → ℤ) (n : ℕ) → length (all-pasts τ n) ≡ n
unfolding all-pasts
all-long τ zero = refl
all-long τ (suc n) = let z = all-long τ n in omega arith

pub all-heirs : (x : ℕ) (τ : ℕ → ℕ → ℤ) (n k : ℕ) → k < n → Heir x (τ k) (all-pasts τ n)
unfolding all-pasts Heir
all-heirs x τ zero k h = absurd (omega arith)
all-heirs x τ (suc n) k h = one_more (λ i. Heir x (τ i) (all-pasts τ (suc n))) k n h (λ e. inr (all-heirs x τ n k e)) (inl (λ i q. refl))
