-- Two rows that agree below a place, and what keeps that. Assumes nothing.
use Prim.Native.Nat.{ℕ, zero, suc, ◌+◌, ◌<◌, ◌≤◌}
use native.Mathlib.Omega.{arith}
use mathlib.Core.Path.{◌≡◌, refl, sym, ap, ◌∙◌}
use mathlib.Core.Bool.{Bool, true, false}
use mathlib.Core.List.{List, [], ◌∷◌, ◌++◌}
use lib.ListN.{get_or, set, length, take, drop, length-set}
use lib.Seq.{take-set-lt, take-set-le, take-suc-set, take_all, take-take, get_or-take, get_or-drop}
use lib.Dec.{ltb}
use borrow.Author.Tests.{ltb-true, ltb-false}
use lib.IntN.{ℤ, pos}
use Rattle.fixed.specs.Iter.{either}
use Rattle.fixed.specs.Row.{word}
use Rattle.fixed.proofs.Parts.{drop-take}
use Rattle.counts.specs.Agree.{Alike}

-- a branch by one test, side by side
pub either_same : {A : Type 0} (c : Bool) (x y u v : A) → (c ≡ true → x ≡ u) → (c ≡ false → y ≡ v) → either c x y ≡ either c u v
either_same true x y u v h k = h refl
either_same false x y u v h k = k refl

-- ---- rows of one length that agree below b
pub record Below (b : ℕ) (s t : List ℤ) : Type 0 where
  pub len : length s ≡ length t
  pub eq : take b s ≡ take b t

pub below-refl : (b : ℕ) (s : List ℤ) → Below b s s
below-refl b s = record { len = refl; eq = refl }

pub below_at : {b : ℕ} {s t : List ℤ} → Below b s t → (i : ℕ) → i < b → word s i ≡ word t i
below_at {b} {s} {t} r i h =
    sym (get_or-take b s i (pos 0) h) ∙ ap (λ (l : List ℤ). get_or l i (pos 0)) r.eq ∙ get_or-take b t i (pos 0) h

pub below_less : {a b : ℕ} {s t : List ℤ} → a ≤ b → Below b s t → Below a s t
below_less {a} {b} {s} {t} h r =
    record { len = r.len; eq = sym (take-take a b s h) ∙ ap (take a) r.eq ∙ take-take a b t h }

len-set : (s t : List ℤ) (i : ℕ) (v w : ℤ) → length s ≡ length t → length (set s i v) ≡ length (set t i w)
len-set s t i v w e = length-set s i v ∙ e ∙ sym (length-set t i w)

-- the same word at any place
pub below_set : {b : ℕ} {s t : List ℤ} → Below b s t → (i : ℕ) (v : ℤ) → Below b (set s i v) (set t i v)
below_set {b} {s} {t} r i v = record { len = len-set s t i v v r.len; eq = go (ltb i b) refl }
  where
    go : (c : Bool) → ltb i b ≡ c → take b (set s i v) ≡ take b (set t i v)
    go true e =
        let h = ltb-true i b e in
        take-set-lt b s i v h ∙ ap (λ (l : List ℤ). set l i v) r.eq ∙ sym (take-set-lt b t i v h)
    go false e =
        let h = ltb-false i b e in
        take-set-le b s i v h ∙ r.eq ∙ sym (take-set-le b t i v h)

-- any two words at a place from b on
pub below-past : {b : ℕ} {s t : List ℤ} → Below b s t → (i : ℕ) (v w : ℤ) → b ≤ i → Below b (set s i v) (set t i w)
below-past {b} {s} {t} r i v w h =
    record { len = len-set s t i v w r.len; eq = take-set-le b s i v h ∙ r.eq ∙ sym (take-set-le b t i w h) }

-- the same word at the first place that may differ
pub below-grow : {b : ℕ} {s t : List ℤ} → Below b s t → (v : ℤ) → Below (suc b) (set s b v) (set t b v)
below-grow {b} {s} {t} r v = record { len = len-set s t b v v r.len; eq = go (ltb b (length s)) refl }
  where
    go : (c : Bool) → ltb b (length s) ≡ c → take (suc b) (set s b v) ≡ take (suc b) (set t b v)
    go true e =
        let h = ltb-true b (length s) e in
        let k : b < length t = omega (arith, r.len) in
        take-suc-set s b v h ∙ ap (λ (l : List ℤ). l ++ (v ∷ [])) r.eq ∙ sym (take-suc-set t b v k)
    go false e =
        let h = ltb-false b (length s) e in
        let k : length t ≤ b = omega (arith, r.len) in
        ap (λ (l : List ℤ). take (suc b) (set l b v)) (sym (take_all b s h) ∙ r.eq ∙ take_all b t k)

-- a word changed by what it was, at any place
pub below-map : {b : ℕ} {s t : List ℤ} (h : ℤ → ℤ) (i : ℕ) → Below b s t → Below b (set s i (h (word s i))) (set t i (h (word t i)))
below-map {b} {s} {t} h i r = go (ltb i b) refl
  where
    go : (c : Bool) → ltb i b ≡ c → Below b (set s i (h (word s i))) (set t i (h (word t i)))
    go true e = rw (below_at r i (ltb-true i b e)) (below_set r i _)
    go false e = below-past r i _ _ (ltb-false i b e)

-- rows that end before b
pub below_all : {b : ℕ} {s t : List ℤ} → Below b s t → length s ≤ b → s ≡ t
below_all {b} {s} {t} r h =
    let k : length t ≤ b = omega (arith, r.len) in
    sym (take_all b s h) ∙ r.eq ∙ take_all b t k

-- ---- the same, told word by word
takes : (b : ℕ) (s t : List ℤ) → length s ≡ length t → ((i : ℕ) → i < b → word s i ≡ word t i) → take b s ≡ take b t
takes zero s t l h = refl
takes (suc b) [] [] l h = refl
takes (suc b) [] (y ∷ t) l h = absurd (omega arith)
takes (suc b) (x ∷ s) [] l h = absurd (omega arith)
takes (suc b) (x ∷ s) (y ∷ t) l h =
    rw (h 0 (omega arith), takes b s t (omega (arith, l)) (λ i p. h (suc i) (omega arith))) refl

pub from-alike : {b : ℕ} {s t : List ℤ} → Alike b s t → Below b s t
from-alike {b} {s} {t} r = record { len = r.long; eq = takes b s t r.long r.words }

pub to-alike : {b : ℕ} {s t : List ℤ} → Below b s t → Alike b s t
to-alike r = record { long = r.len; words = below_at r }

-- a part of two rows that ends below b
pub below-part : {b : ℕ} {s t : List ℤ} → Below b s t → (a m : ℕ) → a + m ≤ b → take m (drop a s) ≡ take m (drop a t)
below-part {b} {s} {t} r a m h = drop-take a m s ∙ ap (drop a) (below_less h r).eq ∙ sym (drop-take a m t)

-- word j of a part
pub part-word : (m off : ℕ) (l : List ℤ) (j : ℕ) → j < m → word (take m (drop off l)) j ≡ word l (off + j)
part-word m off l j h = get_or-take m (drop off l) j (pos 0) h ∙ get_or-drop off l j (pos 0)
