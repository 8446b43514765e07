-- The first place that passes a test. Assumes nothing.
use Prim.Native.Nat.{ℕ, ◌<◌}
use native.Mathlib.Omega.{arith}
use mathlib.Core.Path.{◌≡◌, refl, sym, ◌∙◌}
use mathlib.Core.Logic.{◌⊎◌, inl, inr, ⊎_elim}
use mathlib.Core.Bool.{Bool, true, false, true≢false}
use mathlib.Core.List.{List, [], ◌∷◌}
use Rattle.fixed.specs.Iter.{either}
use Rattle.wav_file.specs.Riff.{first}
use Rattle.wav_file.specs.Walked.{In}

-- true is not false
pub clash : (b : Bool) → b ≡ true → b ≡ false → ⊥
clash b t u = true≢false (sym t ∙ u)

-- what is found is in the list and passes
pub first-hit : (t : ℕ → Bool) (l : List ℕ) → 0 < first t l → In (first t l) l × (t (first t l) ≡ true)
first-hit t [] h = absurd (omega arith)
first-hit t (a ∷ l) h = turn (λ k. first-hit t l k) (t a) refl h
  where
    turn : (0 < first t l → In (first t l) l × (t (first t l) ≡ true)) → (b : Bool) → t a ≡ b → 0 < either b a (first t l) → ((either b a (first t l) ≡ a) ⊎ In (either b a (first t l)) l) × (t (either b a (first t l)) ≡ true)
    turn q true e h = (inl refl, e)
    turn q false e h = (inr (q h).0, (q h).1)

-- where nothing is found nothing passes
pub first-none : (t : ℕ → Bool) (l : List ℕ) → ((p : ℕ) → In p l → 0 < p) → first t l ≡ 0 → (p : ℕ) → In p l → t p ≡ false
first-none t [] h e p i = absurd i
first-none t (a ∷ l) h e p i = turn (λ z j. first-none t l (λ q k. h q (inr k)) z p j) (t a) refl e i
  where
    turn : (first t l ≡ 0 → In p l → t p ≡ false) → (b : Bool) → t a ≡ b → either b a (first t l) ≡ 0 → (p ≡ a) ⊎ In p l → t p ≡ false
    turn r true w e i = absurd (omega (arith, h a (inl refl)))
    turn r false w e i = ⊎_elim (λ (s : p ≡ a). rw s w) (λ (j : In p l). r e j) i

-- two tests that agree on the list find the same
pub first-same : (s t : ℕ → Bool) (l : List ℕ) → ((p : ℕ) → In p l → s p ≡ t p) → first s l ≡ first t l
first-same s t [] h = refl
first-same s t (a ∷ l) h = rw (h a (inl refl), first-same s t l (λ p i. h p (inr i)))
