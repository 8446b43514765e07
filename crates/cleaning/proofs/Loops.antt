-- All places of a row, one after the other, and rows cleared whole or but for the last place. Assumes nothing.
use Prim.Native.Nat.{ℕ, zero, suc, ◌+◌, ◌<◌}
use native.Mathlib.Omega.{arith}
use mathlib.Core.Path.{◌≡◌, refl, sym, ap, ap₂, ◌∙◌}
use mathlib.Core.Bool.{Bool, true, false}
use mathlib.Core.List.{List, [], ◌∷◌, ◌++◌}
use lib.ListN.{length, replicate}
use lib.IntN.{ℤ, pos}
use lib.Dec.{eqb}
use borrow.Author.Tests.{eq-eqb, eqb-true}
use Rattle.std.proofs.Common.{set, add-one}
use Rattle.fixed.specs.Iter.{iter}
use Rattle.fixed.specs.Row.{word}
use Rattle.fixed.specs.Wrap.{wrap16}
use Rattle.silk.specs.declared.structs.Settings.{Settings}
use Rattle.counts.specs.Conditions.{voiced}
use Rattle.cleaning.specs.Cleaned.{placed, kept_if, kept_at, low_row, lag_counts}
use Rattle.cleaning.specs.Turns.{place_turn}
use Rattle.cleaning.proofs.Places.{kept}
use Rattle.cleaning.proofs.Keeps.{fails}

-- the loop on the rest of a row, after its first number
turns-cons : (f : ℕ → ℤ → ℤ) (n : ℕ) (z : ℤ) (l : List ℤ) → iter (place_turn f) (suc n) (z ∷ l) ≡ f 0 z ∷ iter (place_turn (λ k. f (suc k))) n l
turns-cons f zero z l = refl
turns-cons f (suc n) z l = ap (place_turn f (suc n)) (turns-cons f n z l)

placed-suc : (f : ℕ → ℤ → ℤ) (i : ℕ) (l : List ℤ) → placed f (suc i) l ≡ placed (λ k. f (suc k)) i l
unfolding placed
placed-suc f i [] = refl
placed-suc f i (z ∷ l) = ap (λ (r : List ℤ). f (suc i) z ∷ r) (placed-suc f (suc i) l)

turns-placed : (f : ℕ → ℤ → ℤ) (l : List ℤ) → iter (place_turn f) (length l) l ≡ placed f 0 l
unfolding placed
turns-placed f [] = refl
turns-placed f (z ∷ l) = turns-cons f (length l) z l ∙ ap (λ (r : List ℤ). f 0 z ∷ r) (turns-placed (λ k. f (suc k)) l ∙ sym (placed-suc f 0 l))

pub loop-kept : (counts : ℕ → Bool) (n : ℕ) (l : List ℤ) → n ≡ length l → iter (place_turn (λ i z. kept_if (counts i) z)) n l ≡ kept_at counts l
unfolding kept_at
loop-kept counts n l e = rw e (turns-placed (λ i z. kept_if (counts i) z) l)

pub loop-low : (n : ℕ) (l : List ℤ) → n ≡ length l → iter (place_turn (λ i z. wrap16 z)) n l ≡ low_row l
unfolding low_row
loop-low n l e = rw e (turns-placed (λ i z. wrap16 z) l)

-- ---- one turn of the loop that clears
pub cleared : (b : Bool) (z : ℤ) → b ≡ false → kept_if b z ≡ pos 0
unfolding kept_if
cleared b z e = rw e refl

pub turn-kept : (counts : ℕ → Bool) (k : ℕ) (l : List ℤ) → counts k ≡ true → set l k (word l k) ≡ place_turn (λ i z. kept_if (counts i) z) k l
turn-kept counts k l e = sym (ap (set l k) (kept (counts k) (word l k) e))

pub turn-cleared : (counts : ℕ → Bool) (k : ℕ) (l : List ℤ) → counts k ≡ false → set l k (pos 0) ≡ place_turn (λ i z. kept_if (counts i) z) k l
turn-cleared counts k l e = sym (ap (set l k) (cleared (counts k) (word l k) e))

-- .. and after it
pub turn-next : (f : ℕ → ℤ → ℤ) (n : ℕ) (l : List ℤ) → place_turn f n (iter (place_turn f) n l) ≡ iter (place_turn f) (n + 1) l
turn-next f n l = ap (λ (m : ℕ). iter (place_turn f) m l) (sym (add-one n))

-- ---- rows cleared whole
none-placed : (counts : ℕ → Bool) (i : ℕ) (l : List ℤ) → ((j : ℕ) → counts j ≡ false) → replicate (length l) (pos 0) ≡ placed (λ k z. kept_if (counts k) z) i l
unfolding placed
none-placed counts i [] h = refl
none-placed counts i (z ∷ l) h = ap₂ (λ (y : ℤ) (r : List ℤ). y ∷ r) (sym (cleared (counts i) z (h i))) (none-placed counts (suc i) l h)

pub none-kept : (counts : ℕ → Bool) (l : List ℤ) → ((j : ℕ) → counts j ≡ false) → replicate (length l) (pos 0) ≡ kept_at counts l
unfolding kept_at
none-kept counts l h = none-placed counts 0 l h

pub nothing-kept : (counts : ℕ → Bool) (l : List ℤ) → length l ≡ 0 → l ≡ kept_at counts l
unfolding kept_at placed
nothing-kept counts [] e = refl
nothing-kept counts (z ∷ l) e = absurd (let h : suc (length l) ≡ 0 = e in omega arith)

-- ---- the lags of a frame that isn't voiced
not-last : (s : Settings) (m i : ℕ) → voiced s ≡ false → suc i < m → lag_counts s m i ≡ false
unfolding lag_counts
not-last s m i v h = rw v (fails (eqb (suc i) m) (λ (e : eqb (suc i) m ≡ true). let q = eqb-true (suc i) m e in omega arith))

the-last : (s : Settings) (m i : ℕ) → voiced s ≡ false → suc i ≡ m → lag_counts s m i ≡ true
unfolding lag_counts
the-last s m i v e = rw v (eq-eqb (suc i) m e)

last-placed : (s : Settings) (m i : ℕ) (l : List ℤ) (z : ℤ) → voiced s ≡ false → i + suc (length l) ≡ m
    → replicate (length l) (pos 0) ++ z ∷ [] ≡ placed (λ k y. kept_if (lag_counts s m k) y) i (l ++ z ∷ [])
unfolding placed
last-placed s m i [] z v e = ap (λ (y : ℤ). y ∷ []) (sym (kept (lag_counts s m i) z (the-last s m i v (omega arith))))
last-placed s m i (y ∷ l) z v e =
    ap₂ (λ (x : ℤ) (r : List ℤ). x ∷ r) (sym (cleared (lag_counts s m i) y (not-last s m i v (omega arith)))) (last-placed s m (suc i) l z v (omega arith))

pub last-kept-alone : (s : Settings) (l : List ℤ) (z : ℤ) (row : List ℤ) → voiced s ≡ false → row ≡ l ++ z ∷ [] → length l + 1 ≡ length row
    → replicate (length l) (pos 0) ++ z ∷ [] ≡ kept_at (lag_counts s (length row)) row
unfolding kept_at
last-kept-alone s l z row v e n =
    last-placed s (length row) 0 l z v (omega arith) ∙ ap (λ (r : List ℤ). placed (λ k y. kept_if (lag_counts s (length row) k) y) 0 r) (sym e)
