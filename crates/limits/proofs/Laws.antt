-- What the code's tests say of whole numbers, and counts. Assumes nothing.
use mathlib.Core.Path.{◌≡◌, refl, sym, ap, ◌∙◌, subst}
use mathlib.Core.Bool.{Bool, true, false, ◌||◌}
use Prim.Native.Nat.{ℕ, zero, suc, ◌-◌, ◌^◌, ◌≤◌, ◌<◌}
use native.Mathlib.Omega.{arith}
use native.Mathlib.Nat.{eq-or-lt_of_le}
use mathlib.Core.Logic.{⊎_elim}
use lib.IntN.{ℤ, pos, negsuc}
use lib.Dec.{eqb, ltb}
use borrow.Author.Tests.{eq-eqb, ne_eqb, eqb-true, eqb-false, ltb-false, le-ltb}
use mir.Syntax.{w32}
use mir.Val.{SFits, of_z}
use Rattle.fixed.proofs.Lin.{P}
use Rattle.limits.specs.Count.{nat_z, same_z}
use Rattle.limits.specs.Tests.{outside, some}

-- a count, in the words of the linear laws
pub nat-P : (z : ℤ) → nat_z z ≡ P z
nat-P (pos n) = refl
nat-P (negsuc n) = refl

-- the count of a setting is below 2^31
pub nat-small : {z : ℤ} → SFits w32 z → nat_z z < 2 ^ 31
nat-small {z = pos n} f = f.sfits
nat-small {z = negsuc n} f = omega arith

-- the code compares bits, the definitions compare numbers
pub same_bits : {a b : ℤ} → SFits w32 a → SFits w32 b → eqb (of_z w32 a) (of_z w32 b) ≡ same_z a b
same_bits {a = pos a} {b = pos b} f g = refl
same_bits {a = pos a} {b = negsuc b} f g =
    ne_eqb a (2 ^ 32 - suc b) (λ (e : a ≡ 2 ^ 32 - suc b). let h : a < 2 ^ 31 = f.sfits in let k : b < 2 ^ 31 = g.sfits in omega arith)
same_bits {a = negsuc a} {b = pos b} f g =
    ne_eqb (2 ^ 32 - suc a) b (λ (e : 2 ^ 32 - suc a ≡ b). let h : a < 2 ^ 31 = f.sfits in let k : b < 2 ^ 31 = g.sfits in omega arith)
same_bits {a = negsuc a} {b = negsuc b} f g = by_way (eqb a b) refl
  where
    by_way : (t : Bool) → eqb a b ≡ t → eqb (of_z w32 (negsuc a)) (of_z w32 (negsuc b)) ≡ eqb a b
    by_way true h = eq-eqb _ _ (ap (λ (n : ℕ). of_z w32 (negsuc n)) (eqb-true a b h)) ∙ sym h
    by_way false h = ne_eqb _ _ (λ (e : 2 ^ 32 - suc a ≡ 2 ^ 32 - suc b). eqb-false a b h (let l : a < 2 ^ 31 = f.sfits in let k : b < 2 ^ 31 = g.sfits in omega arith)) ∙ sym h

-- a test of the code that held, and one that failed
pub same-yes : {a b : ℤ} → SFits w32 a → SFits w32 b → of_z w32 a ≡ of_z w32 b → same_z a b ≡ true
same-yes f g e = sym (same_bits f g) ∙ eq-eqb _ _ e

pub same-no : {a b : ℤ} → SFits w32 a → SFits w32 b → (of_z w32 a ≡ of_z w32 b → ⊥) → same_z a b ≡ false
same-no f g e = sym (same_bits f g) ∙ ne_eqb _ _ e

-- what the test on numbers says
pub same_true : (a b : ℤ) → same_z a b ≡ true → a ≡ b
same_true (pos a) (pos b) e = ap pos (eqb-true a b e)
same_true (pos a) (negsuc b) e = let z : ◌≡◌ {A = ℕ} 0 1 = cc in absurd (omega arith)
same_true (negsuc a) (pos b) e = let z : ◌≡◌ {A = ℕ} 0 1 = cc in absurd (omega arith)
same_true (negsuc a) (negsuc b) e = ap negsuc (eqb-true a b e)

pub same_refl : (a : ℤ) → same_z a a ≡ true
same_refl (pos a) = eq-eqb a a refl
same_refl (negsuc a) = eq-eqb a a refl

-- ---- tests joined
pub or-false : (a b : Bool) → (a || b) ≡ false → (a ≡ false) × (b ≡ false)
or-false true b e = let z : ◌≡◌ {A = ℕ} 0 1 = cc in absurd (omega arith)
or-false false b e = (refl, e)

pub or_elim : {C : Type 0} {a b : Bool} → (a ≡ true → C) → (b ≡ true → C) → (a || b) ≡ true → C
or_elim {a = true} f g e = f refl
or_elim {a = false} f g e = g e

-- `a || b` in the code: v is a where a holds, else b
pub or-then : {v a : Bool} (b : Bool) → v ≡ a → a ≡ true → v ≡ (a || b)
or-then {a = true} b e h = e
or-then {a = false} b e h = let z : ◌≡◌ {A = ℕ} 0 1 = cc in absurd (omega arith)

pub or-else : {v a b : Bool} → a ≡ false → v ≡ b → v ≡ (a || b)
or-else {a = true} h e = let z : ◌≡◌ {A = ℕ} 0 1 = cc in absurd (omega arith)
or-else {a = false} h e = e

-- a number that is not outside a range of counts is a count of that range
pub inside : (lo hi : ℕ) (z : ℤ) → outside (pos lo) (pos hi) z ≡ false → (z ≡ pos (nat_z z)) × ((lo ≤ nat_z z) × (nat_z z ≤ hi))
unfolding outside
inside lo hi (pos n) e = let h = or-false (ltb n lo) (ltb hi n) e in (refl, (ltb-false n lo h.0, ltb-false hi n h.1))
inside lo hi (negsuc n) e = let z : ◌≡◌ {A = ℕ} 0 1 = cc in absurd (omega arith)

-- and a count of the range is not outside it
pub within : (lo hi n : ℕ) → lo ≤ n → n ≤ hi → outside (pos lo) (pos hi) (pos n) ≡ false
unfolding outside
within lo hi n l h = rw (le-ltb n lo l, le-ltb hi n h)

-- where p holds of no number below m
pub some-false : (p : ℕ → Bool) (m : ℕ) → some p m ≡ false → (k : ℕ) → k < m → p k ≡ false
some-false p zero e k l = absurd (omega arith)
some-false p (suc m) e k l =
    let h = or-false (some p m) (p m) e in
    ⊎_elim (λ (s : k ≡ m). subst (λ (i : ℕ). p i ≡ false) (sym s) h.1) (λ (s : k < m). some-false p m h.0 k s) (eq-or-lt_of_le (let u : k ≤ m = omega arith in u))
