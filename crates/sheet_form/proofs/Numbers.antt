-- A section's numbers, one after the other, as the loop reads them. Assumes nothing.
use mathlib.Core.Path.{◌≡◌, refl, sym, ap}
use mathlib.Core.List.{List, [], ◌∷◌, ◌++◌, append-nil, append_assoc}
use Prim.Native.Nat.{ℕ, suc, ◌+◌}
use native.Mathlib.Omega.{arith}
use lib.ListN.{length, length-replicate}
use lib.IntN.{ℤ, pos}
use lib.Signed.{lt_z}
use mathlib.Core.Bool.{Bool, true, false}
use mir.Syntax.{Width}
use mir.Val.{SFits}
use Rattle.fixed.specs.Iter.{either}
use Rattle.fixed.proofs.Lin.{lt-false, sfits-lin, sfits-of-lin}
use Rattle.std.specs.Prelude.{Option, Some, None}
use Rattle.sheet_words.specs.Number.{Range, Read, got, bad, within, in_range, and_rest, number_of, word, skip, after_word, number}
use Rattle.silk.specs.State.{zeros}
use Rattle.sheet_form.specs.Sections.{and_then, before, numbers}

-- these numbers before those that are still to be read
abbrev pub prepend : List ℤ → Read (List ℤ) → Read (List ℤ)
prepend zs (got ys s) = got (zs ++ ys) s
prepend zs bad = bad

prepend-before : (done : List ℤ) (z : ℤ) (m : Read (List ℤ)) → prepend done (before z m) ≡ prepend (done ++ (z ∷ [])) m
unfolding before
prepend-before done z (got ys s) = ap (λ (l : List ℤ). got l s) (sym (append_assoc done (z ∷ []) ys))
prepend-before done z bad = refl

-- one number more
pub numbers_more : (r : Range) (n m : ℕ) (s t : List ℕ) (z : ℤ) (done : List ℤ) → n ≡ suc m → number r s ≡ got z t
    → prepend done (numbers r n s) ≡ prepend (done ++ (z ∷ [])) (numbers r m t)
unfolding numbers and_then
numbers_more r n m s t z done e f = rw (e, f) (prepend-before done z (numbers r m t))

-- a number that can't be read
pub numbers-bad : (r : Range) (n m : ℕ) (s : List ℕ) (done : List ℤ) → n ≡ suc m → number r s ≡ bad → prepend done (numbers r n s) ≡ bad
unfolding numbers and_then
numbers-bad r n m s done e f = rw (e, f)

-- all are read
pub numbers-done : (r : Range) (n : ℕ) (s : List ℕ) (done : List ℤ) → n ≡ 0 → prepend done (numbers r n s) ≡ got done s
unfolding numbers
numbers-done r n s done e = rw e (ap (λ (l : List ℤ). got l s) (append-nil done))

-- ---- how large a number is
within-range : (r : Range) (z w : ℤ) (t : List ℕ) (s : List ℕ) → and_rest (within r z) s ≡ got w t → (w ≡ z) × ((lt_z z r.low ≡ false) × (lt_z r.high z ≡ false))
unfolding within and_rest
within-range r z w t s e = by_tests (lt_z z r.low) (lt_z r.high z) refl refl e
  where
    by_tests : (a b : Bool) → lt_z z r.low ≡ a → lt_z r.high z ≡ b → and_rest (either a None (either b None (Some z))) s ≡ got w t → (w ≡ z) × ((lt_z z r.low ≡ false) × (lt_z r.high z ≡ false))
    by_tests true b p q e = absurd (let x : ◌≡◌ {A = ℕ} 0 1 = cc in omega arith)
    by_tests false true p q e = absurd (let x : ◌≡◌ {A = ℕ} 0 1 = cc in omega arith)
    by_tests false false p q e = (cc, (p, q))

in-range : (r : Range) (m : Option ℤ) (w : ℤ) (s t : List ℕ) → and_rest (in_range r m) s ≡ got w t → (lt_z w r.low ≡ false) × (lt_z r.high w ≡ false)
unfolding in_range and_rest
in-range r (Some z) w s t e = let p = within-range r z w t s e in rw p.0 p.1
in-range r None w s t e = absurd (let x : ◌≡◌ {A = ℕ} 0 1 = cc in omega arith)

-- a number that was read is in its range
pub number-range : (r : Range) (s t : List ℕ) (z : ℤ) → number r s ≡ got z t → (lt_z z r.low ≡ false) × (lt_z r.high z ≡ false)
unfolding number
number-range r s t z e = in-range r (number_of (word (skip s))) z (after_word (skip s)) t e

-- .. and fits where its range does
pub number_fits : (w : Width) (r : Range) (s t : List ℕ) (z : ℤ) → SFits w r.low → SFits w r.high → number r s ≡ got z t → SFits w z
number_fits w r s t z f g e =
    let p = number-range r s t z e in
    let l = lt-false z r.low p.0 in
    let h = lt-false r.high z p.1 in
    let a = sfits-lin f in
    let b = sfits-lin g in
    sfits-of-lin w z (omega arith) (omega arith)

pub length-more : (zs : List ℤ) (z : ℤ) → length (zs ++ (z ∷ [])) ≡ length zs + 1
length-more [] z = refl
length-more (y ∷ zs) z = let e = length-more zs z in omega arith

pub zeros-length : (n : ℕ) → length (zeros n) ≡ n
unfolding zeros
zeros-length n = length-replicate n (pos 0)
