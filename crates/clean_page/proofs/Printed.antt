-- The lines of the changes, number after number and section after section. Assumes nothing.
use Prim.Native.Nat.{ℕ, zero, suc, ◌+◌, ◌<◌, min}
use native.Mathlib.Omega.{arith}
use mathlib.Core.Path.{◌≡◌, refl, sym, ap, ◌∙◌}
use mathlib.Core.Bool.{Bool, true, false}
use mathlib.Core.List.{List, [], ◌∷◌, ◌++◌, append-nil, append_assoc, map, map-append}
use lib.ListN.{length, take, get_or}
use lib.Seq.{length-take-le}
use lib.IntN.{ℤ}
use mir.Syntax.{w64}
use mir.Val.{SFits, of_z, to_z}
use Rattle.std.proofs.lemmas.List.{take_more, length-map}
use Rattle.fixed.specs.Iter.{either}
use Rattle.fixed.proofs.Fit.{read}
use Rattle.limits.specs.Count.{same_z}
use Rattle.limits.proofs.Laws.{same_true, same_refl}
use Rattle.pages.specs.declared.page.Page.{Page as Lent}
use Rattle.pages.specs.Added.{Added}
use Rattle.pages.specs.Decimal.{digits, decimal}
use Rattle.pages.proofs.Pages.{added_none, added_then}
use Rattle.cleaning.specs.Changes.{Change, change_of, listed, changes_in, changes_from}
use Rattle.clean_page.specs.Text.{change_text, changes_text}

-- ---- one line
pub line-added : {p q1 q2 q3 q4 q5 q6 q7 q : Lent} (s n : ℕ) (old new : ℤ) → Added p (digits s) q1 → Added q1 (32 ∷ []) q2 → Added q2 (digits n) q3 → Added q3 (32 ∷ []) q4
    → Added q4 (decimal old) q5 → Added q5 (32 ∷ []) q6 → Added q6 (decimal new) q7 → Added q7 (10 ∷ []) q → Added p (change_text (change_of s n old new)) q
unfolding change_text decimal
line-added s n old new a b c d e f g h =
    added_then (((digits s ++ (32 ∷ digits n)) ++ (32 ∷ decimal old)) ++ (32 ∷ decimal new)) (10 ∷ [])
    (added_then ((digits s ++ (32 ∷ digits n)) ++ (32 ∷ decimal old)) (32 ∷ decimal new)
    (added_then (digits s ++ (32 ∷ digits n)) (32 ∷ decimal old)
    (added_then (digits s) (32 ∷ digits n) a (added_then (32 ∷ []) (digits n) b c))
    (added_then (32 ∷ []) (decimal old) d e))
    (added_then (32 ∷ []) (decimal new) f g))
    h

-- ---- one number: no line where it stays, else its line
pub stays-text : (s p : ℕ) (old new : ℤ) → same_z old new ≡ true → [] ≡ changes_text (listed s p old new [])
unfolding listed changes_text
stays-text s p old new e = rw e refl

pub changed-text : (s p : ℕ) (old new : ℤ) → same_z old new ≡ false → change_text (change_of s p old new) ≡ changes_text (listed s p old new [])
unfolding listed changes_text
changed-text s p old new e = rw e (sym (append-nil (change_text (change_of s p old new))))

-- the code compares bits, the definitions compare numbers
pub same-64 : (a b : ℤ) → SFits w64 a → SFits w64 b → of_z w64 a ≡ of_z w64 b → same_z a b ≡ true
same-64 a b f g e =
    let k : a ≡ b = sym (read f) ∙ ap (to_z w64) e ∙ read g in
    rw k (same_refl b)

pub other-64 : (a b : ℤ) → (of_z w64 a ≡ of_z w64 b → ⊥) → same_z a b ≡ false
other-64 a b h = go (same_z a b) refl
  where
    go : (t : Bool) → same_z a b ≡ t → same_z a b ≡ false
    go true e = absurd (h (ap (of_z w64) (same_true a b e)))
    go false e = e

-- ---- number after number
listed-append : (s p : ℕ) (a b : ℤ) (cs ds : List Change) → listed s p a b (cs ++ ds) ≡ listed s p a b cs ++ ds
unfolding listed
listed-append s p a b cs ds = go (same_z a b)
  where
    go : (t : Bool) → either t (cs ++ ds) (change_of s p a b ∷ (cs ++ ds)) ≡ either t cs (change_of s p a b ∷ cs) ++ ds
    go true = refl
    go false = refl

texts-append : (cs ds : List Change) → changes_text (cs ++ ds) ≡ changes_text cs ++ changes_text ds
unfolding changes_text
texts-append [] ds = refl
texts-append (c ∷ cs) ds = ap (λ (t : List ℕ). change_text c ++ t) (texts-append cs ds) ∙ sym (append_assoc (change_text c) (changes_text cs) (changes_text ds))

-- one number more in both rows
changes-more : (s p : ℕ) (xs ys : List ℤ) (x y : ℤ) → length xs ≡ length ys
    → changes_in s p (xs ++ (x ∷ [])) (ys ++ (y ∷ [])) ≡ changes_in s p xs ys ++ listed s (p + length xs) x y []
unfolding changes_in
changes-more s p [] [] x y h = let e : p + 0 ≡ p = omega arith in rw e
changes-more s p [] (b ∷ ys) x y h = absurd (omega arith)
changes-more s p (a ∷ xs) [] x y h = absurd (omega arith)
changes-more s p (a ∷ xs) (b ∷ ys) x y h =
    let e : suc p + length xs ≡ p + suc (length xs) = omega arith in
    let k : length xs ≡ length ys = omega arith in
    ap (listed s p a b) (changes-more s (suc p) xs ys x y k ∙ rw e) ∙ listed-append s p a b (changes_in s (suc p) xs ys) (listed s (p + suc (length xs)) x y [])

-- .. of rows of numbers of some type
pub rows-more : {X : Type 0} (value : X → ℤ) (s i : ℕ) (old new : List X) (x y : X) → i < length old → i < length new → x ≡ get_or old i x → y ≡ get_or new i y
    → changes_text (changes_in s 1 (map value (take (i + 1) old)) (map value (take (i + 1) new)))
    ≡ changes_text (changes_in s 1 (map value (take i old)) (map value (take i new))) ++ changes_text (listed s (i + 1) (value x) (value y) [])
rows-more value s i old new x y h k e f =
    let m = length-map (take i old) value in
    let n = length-map (take i new) value in
    let l : length (map value (take i old)) ≡ length (map value (take i new)) = omega (arith, m, n, length-take-le i old, length-take-le i new) in
    let q : 1 + length (map value (take i old)) ≡ i + 1 = omega (arith, m, length-take-le i old) in
    let a = ap (map value) (take_more old i x h ∙ ap (λ (z : _). take i old ++ (z ∷ [])) (sym e)) ∙ map-append value (take i old) (x ∷ []) in
    let b = ap (map value) (take_more new i y k ∙ ap (λ (z : _). take i new ++ (z ∷ [])) (sym f)) ∙ map-append value (take i new) (y ∷ []) in
    ap changes_text (rw (a, b) (changes-more s 1 (map value (take i old)) (map value (take i new)) (value x) (value y) l ∙ rw q))
    ∙ texts-append (changes_in s 1 (map value (take i old)) (map value (take i new))) (listed s (i + 1) (value x) (value y) [])

-- where one of the rows ends there is no further line
ends-left : (s p : ℕ) (new : List ℤ) → changes_in s p [] new ≡ []
unfolding changes_in
ends-left s p [] = refl
ends-left s p (b ∷ new) = refl

ends-right : (s p : ℕ) (old : List ℤ) → changes_in s p old [] ≡ []
unfolding changes_in
ends-right s p [] = refl
ends-right s p (a ∷ old) = refl

pub rows-done : {X : Type 0} (value : X → ℤ) (s p i : ℕ) (old new : List X) → i ≡ min (length old) (length new)
    → changes_in s p (map value (take i old)) (map value (take i new)) ≡ changes_in s p (map value old) (map value new)
unfolding changes_in
rows-done value s p zero [] new h = sym (ends-left s p (map value new))
rows-done value s p (suc i) [] new h = absurd (omega arith)
rows-done value s p zero (a ∷ old) [] h = sym (ends-right s p (map value (a ∷ old)))
rows-done value s p (suc i) (a ∷ old) [] h = absurd (omega arith)
rows-done value s p zero (a ∷ old) (b ∷ new) h = absurd (omega arith)
rows-done value s p (suc i) (a ∷ old) (b ∷ new) h = ap (listed s p (value a) (value b)) (rows-done value s (suc p) i old new (omega arith))

-- ---- section after section
pub first-added : {p q r : Lent} (s : ℕ) (a b : List ℤ) (old new : List (List ℤ)) → Added p (changes_text (changes_in s 1 a b)) q → Added q (changes_text (changes_from (suc s) old new)) r
    → Added p (changes_text (changes_from s (a ∷ old) (b ∷ new))) r
unfolding changes_from
first-added s a b old new h k =
    rw (texts-append (changes_in s 1 a b) (changes_from (suc s) old new))
    (added_then (changes_text (changes_in s 1 a b)) (changes_text (changes_from (suc s) old new)) h k)

pub last-added : (s : ℕ) (p : Lent) → Added p (changes_text (changes_from s [] [])) p
unfolding changes_from changes_text
last-added s p = added_none p
