-- The list of changes: it holds exactly the places where the two sheets differ, in sheet order, and the old sheet can be rebuilt from it and the new
-- one. Assumes nothing.
use Prim.Native.Nat.{ℕ, suc, ◌+◌, ◌-◌, ◌<◌, ◌≤◌}
use native.Mathlib.Omega.{arith}
use mathlib.Core.Path.{◌≡◌, refl, sym, ap, ◌∙◌, subst}
use mathlib.Core.Bool.{Bool, true, false}
use mathlib.Core.List.{List, [], ◌∷◌, ◌++◌, append_assoc}
use mathlib.Core.Logic.{◌⊎◌, inl, inr, ⊎_elim}
use lib.ListN.{length, get_or, set, length-append}
use lib.Seq.{set_at}
use lib.IntN.{ℤ}
use lib.Dec.{eqb}
use borrow.Author.Tests.{eqb-true, eqb-false}
use Rattle.fixed.specs.Row.{word}
use Rattle.limits.specs.Count.{same_z}
use Rattle.limits.proofs.Laws.{same_true, same_refl}
use Rattle.counts.proofs.Conditions.{not-both}
use Rattle.cleaning.specs.Changes.{Change, change_of, listed, changes_in, changes_from, changes, put_back_in, put_back, undone, SameShape, Differ, Has, Before, InOrder}
use Rattle.cleaning.proofs.Keeps.{fails}

-- ---- one number
-- two numbers are the same or not, as the test says
differ-when : (a b : ℤ) → (a ≡ b → ⊥) → same_z a b ≡ false
differ-when a b n = fails (same_z a b) (λ e. n (same_true a b e))

differ-why : (a b : ℤ) → same_z a b ≡ false → a ≡ b → ⊥
differ-why a b e q = not-both e (rw q (same_refl b))

listed-stays : (s p : ℕ) (a b : ℤ) (cs : List Change) → same_z a b ≡ true → listed s p a b cs ≡ cs
unfolding listed
listed-stays s p a b cs e = rw e

listed-changes : (s p : ℕ) (a b : ℤ) (cs : List Change) → same_z a b ≡ false → listed s p a b cs ≡ change_of s p a b ∷ cs
unfolding listed
listed-changes s p a b cs e = rw e

-- ---- a section from place p on
record DifferIn (s p : ℕ) (old new : List ℤ) (c : Change) : Type 0 where
  section : c.section ≡ s
  low : p ≤ c.place
  high : c.place < p + length old
  before : c.old ≡ word old (c.place - p)
  after : c.new ≡ word new (c.place - p)
  other : c.old ≡ c.new → ⊥

-- from the next place on
word_next : (a : ℤ) (l : List ℤ) (i p : ℕ) → suc p ≤ i → word (a ∷ l) (i - p) ≡ word l (i - suc p)
word_next a l i p h = ap (word (a ∷ l)) (let e : i - p ≡ suc (i - suc p) = omega arith in e)

in-next : (s p : ℕ) (a b : ℤ) (old new : List ℤ) (c : Change) → DifferIn s (suc p) old new c → DifferIn s p (a ∷ old) (b ∷ new) c
in-next s p a b old new c d =
    record {
      section = d.section;
      low = let l = d.low in omega arith;
      high = let h = d.high in omega arith;
      before = d.before ∙ sym (word_next a old c.place p d.low);
      after = d.after ∙ sym (word_next b new c.place p d.low);
      other = d.other;
    }

next-in : (s p : ℕ) (a b : ℤ) (old new : List ℤ) (c : Change) → DifferIn s p (a ∷ old) (b ∷ new) c → suc p ≤ c.place → DifferIn s (suc p) old new c
next-in s p a b old new c d l =
    record {
      section = d.section;
      low = l;
      high = let h = d.high in omega arith;
      before = d.before ∙ word_next a old c.place p l;
      after = d.after ∙ word_next b new c.place p l;
      other = d.other;
    }

-- the number at place p itself
in-first : (s p : ℕ) (a b : ℤ) (old new : List ℤ) (c : Change) → same_z a b ≡ false → c ≡ change_of s p a b → DifferIn s p (a ∷ old) (b ∷ new) c
in-first s p a b old new c e q =
    rw q
    (record {
      section = refl;
      low = omega arith;
      high = omega arith;
      before = sym (ap (word (a ∷ old)) (let z : p - p ≡ 0 = omega arith in z));
      after = sym (ap (word (b ∷ new)) (let z : p - p ≡ 0 = omega arith in z));
      other = differ-why a b e;
    })

change-is : (s p : ℕ) (a b : ℤ) (c : Change) → c.section ≡ s → c.place ≡ p → c.old ≡ a → c.new ≡ b → c ≡ change_of s p a b
change-is s p a b c e1 e2 e3 e4 = rw (← e1, ← e2, ← e3, ← e4) refl

first-is : (s p : ℕ) (a b : ℤ) (old new : List ℤ) (c : Change) → DifferIn s p (a ∷ old) (b ∷ new) c → c.place ≡ p → c ≡ change_of s p a b
first-is s p a b old new c d e =
    let z : c.place - p ≡ 0 = omega arith in
    change-is s p a b c d.section e (d.before ∙ ap (word (a ∷ old)) z) (d.after ∙ ap (word (b ∷ new)) z)

-- what is listed differs
in_step : (s p : ℕ) (a b : ℤ) (old new : List ℤ) (c : Change) (cs : List Change) → (Has c cs → DifferIn s (suc p) old new c) → Has c (listed s p a b cs)
    → DifferIn s p (a ∷ old) (b ∷ new) c
in_step s p a b old new c cs f h = go (same_z a b) refl
  where
    go : (t : Bool) → same_z a b ≡ t → DifferIn s p (a ∷ old) (b ∷ new) c
    go true e = in-next s p a b old new c (f (subst (Has c) (listed-stays s p a b cs e) h))
    go false e =
        ⊎_elim (λ (q : c ≡ change_of s p a b). in-first s p a b old new c e q) (λ (q : Has c cs). in-next s p a b old new c (f q))
        (subst (Has c) (listed-changes s p a b cs e) h)

in-differs : (s p : ℕ) (old new : List ℤ) (c : Change) → Has c (changes_in s p old new) → DifferIn s p old new c
unfolding changes_in
in-differs s p [] [] c h = absurd h
in-differs s p [] (b ∷ new) c h = absurd h
in-differs s p (a ∷ old) [] c h = absurd h
in-differs s p (a ∷ old) (b ∷ new) c h = in_step s p a b old new c (changes_in s (suc p) old new) (λ q. in-differs s (suc p) old new c q) h

-- what differs is listed
has-later : (s p : ℕ) (a b : ℤ) (c : Change) (cs : List Change) → Has c cs → Has c (listed s p a b cs)
has-later s p a b c cs h = go (same_z a b) refl
  where
    go : (t : Bool) → same_z a b ≡ t → Has c (listed s p a b cs)
    go true e = subst (Has c) (sym (listed-stays s p a b cs e)) h
    go false e = subst (Has c) (sym (listed-changes s p a b cs e)) (inr h)

has_first : (s p : ℕ) (a b : ℤ) (c : Change) (cs : List Change) → c ≡ change_of s p a b → (c.old ≡ c.new → ⊥) → Has c (listed s p a b cs)
has_first s p a b c cs q n =
    let e = differ-when a b (λ (w : a ≡ b). n (ap (λ (d : Change). d.old) q ∙ w ∙ sym (ap (λ (d : Change). d.new) q))) in
    subst (Has c) (sym (listed-changes s p a b cs e)) (inl q)

has-step : (s p : ℕ) (a b : ℤ) (old new : List ℤ) (c : Change) (cs : List Change) → (DifferIn s (suc p) old new c → Has c cs) → DifferIn s p (a ∷ old) (b ∷ new) c
    → Has c (listed s p a b cs)
has-step s p a b old new c cs f d = go (eqb c.place p) refl
  where
    go : (t : Bool) → eqb c.place p ≡ t → Has c (listed s p a b cs)
    go true e = has_first s p a b c cs (first-is s p a b old new c d (eqb-true c.place p e)) d.other
    go false e =
        let n = eqb-false c.place p e in
        let l = d.low in
        has-later s p a b c cs (f (next-in s p a b old new c d (omega arith)))

differs-in : (s p : ℕ) (old new : List ℤ) (c : Change) → length old ≡ length new → DifferIn s p old new c → Has c (changes_in s p old new)
unfolding changes_in
differs-in s p [] [] c l d = let a = d.low in let b = d.high in absurd (omega arith)
differs-in s p [] (b ∷ new) c l d = absurd (omega (arith, l))
differs-in s p (a ∷ old) [] c l d = absurd (omega (arith, l))
differs-in s p (a ∷ old) (b ∷ new) c l d =
    has-step s p a b old new c (changes_in s (suc p) old new) (λ q. differs-in s (suc p) old new c (omega (arith, l)) q) d

-- in order
order-step : (s p : ℕ) (a b : ℤ) (cs : List Change) → ((d : Change) → Has d cs → Before (change_of s p a b) d) → InOrder cs → InOrder (listed s p a b cs)
order-step s p a b cs h o = go (same_z a b) refl
  where
    go : (t : Bool) → same_z a b ≡ t → InOrder (listed s p a b cs)
    go true e = subst InOrder (sym (listed-stays s p a b cs e)) o
    go false e = subst InOrder (sym (listed-changes s p a b cs e)) (h, o)

before-next : (s p : ℕ) (a b : ℤ) (old new : List ℤ) (d : Change) → DifferIn s (suc p) old new d → Before (change_of s p a b) d
before-next s p a b old new d q = inr (sym q.section, q.low)

in_order : (s p : ℕ) (old new : List ℤ) → InOrder (changes_in s p old new)
unfolding changes_in
in_order s p [] [] = tt
in_order s p [] (b ∷ new) = tt
in_order s p (a ∷ old) [] = tt
in_order s p (a ∷ old) (b ∷ new) =
    order-step s p a b (changes_in s (suc p) old new) (λ d h. before-next s p a b old new d (in-differs s (suc p) old new d h)) (in_order s (suc p) old new)

-- ---- sections from section s on
record DifferFrom (s : ℕ) (old new : List (List ℤ)) (c : Change) : Type 0 where
  low : s ≤ c.section
  high : c.section < s + length old
  row : DifferIn c.section 1 (get_or old (c.section - s) []) (get_or new (c.section - s) []) c

has-append : (c : Change) (xs ys : List Change) → Has c (xs ++ ys) → Has c xs ⊎ Has c ys
has-append c [] ys h = inr h
has-append c (x ∷ xs) ys (inl e) = inl (inl e)
has-append c (x ∷ xs) ys (inr h) = ⊎_elim (λ (k : Has c xs). inl (inr k)) (λ (k : Has c ys). inr k) (has-append c xs ys h)

append_left : (c : Change) (xs ys : List Change) → Has c xs → Has c (xs ++ ys)
append_left c [] ys h = absurd h
append_left c (x ∷ xs) ys (inl e) = inl e
append_left c (x ∷ xs) ys (inr h) = inr (append_left c xs ys h)

append_right : (c : Change) (xs ys : List Change) → Has c ys → Has c (xs ++ ys)
append_right c [] ys h = h
append_right c (x ∷ xs) ys h = inr (append_right c xs ys h)

append-order : (xs ys : List Change) → InOrder xs → InOrder ys → ((c d : Change) → Has c xs → Has d ys → Before c d) → InOrder (xs ++ ys)
append-order [] ys o u h = u
append-order (x ∷ xs) ys o u h = (
  λ d k. ⊎_elim (λ (m : Has d xs). o.0 d m) (λ (m : Has d ys). h x d (inl refl) m) (has-append d xs ys k),
  append-order xs ys o.1 u (λ c d k m. h c d (inr k) m),
)

row_next : (a : List ℤ) (l : List (List ℤ)) (i s : ℕ) → suc s ≤ i → get_or (a ∷ l) (i - s) [] ≡ get_or l (i - suc s) []
row_next a l i s h = ap (λ (k : ℕ). get_or (a ∷ l) k []) (let e : i - s ≡ suc (i - suc s) = omega arith in e)

from_next : (s : ℕ) (a b : List ℤ) (old new : List (List ℤ)) (c : Change) → DifferFrom (suc s) old new c → DifferFrom s (a ∷ old) (b ∷ new) c
from_next s a b old new c d =
    record {
      low = let l = d.low in omega arith;
      high = let h = d.high in omega arith;
      row = rw (row_next a old c.section s d.low, row_next b new c.section s d.low) d.row;
    }

next-from : (s : ℕ) (a b : List ℤ) (old new : List (List ℤ)) (c : Change) → DifferFrom s (a ∷ old) (b ∷ new) c → suc s ≤ c.section → DifferFrom (suc s) old new c
next-from s a b old new c d l =
    record {
      low = l;
      high = let h = d.high in omega arith;
      row = rw (row_next a old c.section s l, row_next b new c.section s l) at d.row;
    }

in-by : {s t : ℕ} {a b d e : List ℤ} {c : Change} → s ≡ t → a ≡ d → b ≡ e → DifferIn s 1 a b c → DifferIn t 1 d e c
in-by f g h r = rw (← f, ← g, ← h) r

from_first : (s : ℕ) (a b : List ℤ) (old new : List (List ℤ)) (c : Change) → DifferIn s 1 a b c → DifferFrom s (a ∷ old) (b ∷ new) c
from_first s a b old new c d =
    let e = d.section in
    let z : c.section - s ≡ 0 = omega arith in
    record { low = omega arith; high = omega arith; row = in-by (sym e) (sym (ap (λ (k : ℕ). get_or (a ∷ old) k []) z)) (sym (ap (λ (k : ℕ). get_or (b ∷ new) k []) z)) d }

first-from : (s : ℕ) (a b : List ℤ) (old new : List (List ℤ)) (c : Change) → DifferFrom s (a ∷ old) (b ∷ new) c → c.section ≡ s → DifferIn s 1 a b c
first-from s a b old new c d e =
    let z : c.section - s ≡ 0 = omega arith in
    in-by e (ap (λ (k : ℕ). get_or (a ∷ old) k []) z) (ap (λ (k : ℕ). get_or (b ∷ new) k []) z) d.row

from-differs : (s : ℕ) (old new : List (List ℤ)) (c : Change) → Has c (changes_from s old new) → DifferFrom s old new c
unfolding changes_from
from-differs s [] [] c h = absurd h
from-differs s [] (b ∷ new) c h = absurd h
from-differs s (a ∷ old) [] c h = absurd h
from-differs s (a ∷ old) (b ∷ new) c h =
    ⊎_elim (λ (k : Has c (changes_in s 1 a b)). from_first s a b old new c (in-differs s 1 a b c k))
    (λ (k : Has c (changes_from (suc s) old new)). from_next s a b old new c (from-differs (suc s) old new c k))
    (has-append c (changes_in s 1 a b) (changes_from (suc s) old new) h)

-- of one shape
first-long : {a b : List ℤ} {old new : List (List ℤ)} → SameShape (a ∷ old) (b ∷ new) → length a ≡ length b
first-long h = h.numbers 0

rest-shape : {a b : List ℤ} {old new : List (List ℤ)} → SameShape (a ∷ old) (b ∷ new) → SameShape old new
rest-shape h = record { sections = let l = h.sections in omega arith; numbers = λ k. h.numbers (suc k) }

from_step : (s : ℕ) (a b : List ℤ) (old new : List (List ℤ)) (c : Change) (cs : List Change) → length a ≡ length b → (DifferFrom (suc s) old new c → Has c cs)
    → DifferFrom s (a ∷ old) (b ∷ new) c → Has c (changes_in s 1 a b ++ cs)
from_step s a b old new c cs l f d = go (eqb c.section s) refl
  where
    go : (t : Bool) → eqb c.section s ≡ t → Has c (changes_in s 1 a b ++ cs)
    go true e = append_left c (changes_in s 1 a b) cs (differs-in s 1 a b c l (first-from s a b old new c d (eqb-true c.section s e)))
    go false e =
        let n = eqb-false c.section s e in
        let k = d.low in
        append_right c (changes_in s 1 a b) cs (f (next-from s a b old new c d (omega arith)))

differs-from : (s : ℕ) (old new : List (List ℤ)) (c : Change) → SameShape old new → DifferFrom s old new c → Has c (changes_from s old new)
unfolding changes_from
differs-from s [] [] c h d = let a = d.low in let b = d.high in absurd (omega arith)
differs-from s [] (b ∷ new) c h d = let l = h.sections in absurd (omega arith)
differs-from s (a ∷ old) [] c h d = let l = h.sections in absurd (omega arith)
differs-from s (a ∷ old) (b ∷ new) c h d =
    from_step s a b old new c (changes_from (suc s) old new) (first-long h) (λ q. differs-from (suc s) old new c (rest-shape h) q) d

from-order : (s : ℕ) (old new : List (List ℤ)) → InOrder (changes_from s old new)
unfolding changes_from
from-order s [] [] = tt
from-order s [] (b ∷ new) = tt
from-order s (a ∷ old) [] = tt
from-order s (a ∷ old) (b ∷ new) =
    append-order (changes_in s 1 a b) (changes_from (suc s) old new) (in_order s 1 a b) (from-order (suc s) old new)
    (λ c d k m. inl (let e = (in-differs s 1 a b c k).section in let l = (from-differs (suc s) old new d m).low in omega arith))

-- ---- the theorems on the list: exactly the places where the two differ, in sheet order
pub listed-differs : (old new : List (List ℤ)) (c : Change) → Has c (changes old new) → Differ old new c
unfolding changes
listed-differs old new c h =
    let d = from-differs 1 old new c h in
    let r = d.row in
    record {
      section_low = d.low;
      section_high = let k = d.high in omega arith;
      place_low = r.low;
      place_high = let k = r.high in omega arith;
      before = r.before;
      after = r.after;
      other = r.other;
    }

pub differs-listed : (old new : List (List ℤ)) (c : Change) → SameShape old new → Differ old new c → Has c (changes old new)
unfolding changes
differs-listed old new c h d =
    differs-from 1 old new c h
    (record {
      low = d.section_low;
      high = let k = d.section_high in omega arith;
      row = record { section = refl; low = d.place_low; high = let k = d.place_high in omega arith; before = d.before; after = d.after; other = d.other };
    })

pub listed-in-order : (old new : List (List ℤ)) → InOrder (changes old new)
unfolding changes
listed-in-order old new = from-order 1 old new

-- ---- the old sheet again
undone-append : (s : ℕ) (xs ys : List Change) (rows : List (List ℤ)) → undone s (xs ++ ys) rows ≡ undone s ys (undone s xs rows)
unfolding undone
undone-append s [] ys rows = refl
undone-append s (x ∷ xs) ys rows = undone-append s xs ys (put_back s x rows)

undo-one : (s : ℕ) (c : Change) (cs : List Change) (rows : List (List ℤ)) → undone s (c ∷ cs) rows ≡ undone s cs (put_back s c rows)
unfolding undone
undo-one s c cs rows = refl

-- a change of the first section
put_first : (s p : ℕ) (a b : ℤ) (row : List ℤ) (rest : List (List ℤ)) → put_back s (change_of s (suc p) a b) (row ∷ rest) ≡ set row p a ∷ rest
unfolding put_back put_back_in
put_first s p a b row rest =
    let z : s - s ≡ 0 = omega arith in
    let y : suc p - 1 ≡ p = omega arith in
    rw (z, y) refl

undo-step : (s p : ℕ) (a b : ℤ) (pre new : List ℤ) (rest : List (List ℤ)) (cs : List Change) → length pre ≡ p
    → undone s (listed s (suc p) a b cs) ((pre ++ (b ∷ new)) ∷ rest) ≡ undone s cs ((pre ++ (a ∷ new)) ∷ rest)
unfolding undone
undo-step s p a b pre new rest cs l = go (same_z a b) refl
  where
    go : (t : Bool) → same_z a b ≡ t → undone s (listed s (suc p) a b cs) ((pre ++ (b ∷ new)) ∷ rest) ≡ undone s cs ((pre ++ (a ∷ new)) ∷ rest)
    go true e =
        ap (λ (ds : List Change). undone s ds ((pre ++ (b ∷ new)) ∷ rest)) (listed-stays s (suc p) a b cs e)
        ∙ ap (λ (z : ℤ). undone s cs ((pre ++ (z ∷ new)) ∷ rest)) (sym (same_true a b e))
    go false e =
        ap (λ (ds : List Change). undone s ds ((pre ++ (b ∷ new)) ∷ rest)) (listed-changes s (suc p) a b cs e)
        ∙ undo-one s (change_of s (suc p) a b) cs ((pre ++ (b ∷ new)) ∷ rest)
        ∙ ap (undone s cs) (put_first s p a b (pre ++ (b ∷ new)) rest ∙ ap (λ (r : List ℤ). r ∷ rest) (set_at pre b new a p l))

-- the first section's row, from place p + 1 on
undo-in : (s p : ℕ) (pre old new : List ℤ) (rest : List (List ℤ)) → length pre ≡ p → length old ≡ length new
    → undone s (changes_in s (suc p) old new) ((pre ++ new) ∷ rest) ≡ (pre ++ old) ∷ rest
unfolding changes_in undone
undo-in s p pre [] [] rest l e = refl
undo-in s p pre [] (b ∷ new) rest l e = absurd (omega (arith, e))
undo-in s p pre (a ∷ old) [] rest l e = absurd (omega (arith, e))
undo-in s p pre (a ∷ old) (b ∷ new) rest l e =
    let k : length (pre ++ (a ∷ [])) ≡ suc p = omega (arith, length-append pre (a ∷ []), l) in
    undo-step s p a b pre new rest (changes_in s (suc (suc p)) old new) l
    ∙ ap (λ (r : List ℤ). undone s (changes_in s (suc (suc p)) old new) (r ∷ rest)) (sym (append_assoc pre (a ∷ []) new))
    ∙ undo-in s (suc p) (pre ++ (a ∷ [])) old new rest k (omega (arith, e))
    ∙ ap (λ (r : List ℤ). r ∷ rest) (append_assoc pre (a ∷ []) old)

-- changes of later sections
put-later : (s : ℕ) (c : Change) (row : List ℤ) (rows : List (List ℤ)) → suc s ≤ c.section → put_back s c (row ∷ rows) ≡ row ∷ put_back (suc s) c rows
unfolding put_back
put-later s c row rows h =
    ap (λ (k : ℕ). set (row ∷ rows) k (put_back_in (get_or (row ∷ rows) k []) c.place c.old)) (let e : c.section - s ≡ suc (c.section - suc s) = omega arith in e)

undo-later : (s : ℕ) (cs : List Change) (row : List ℤ) (rows : List (List ℤ)) → ((c : Change) → Has c cs → suc s ≤ c.section)
    → undone s cs (row ∷ rows) ≡ row ∷ undone (suc s) cs rows
unfolding undone
undo-later s [] row rows h = refl
undo-later s (c ∷ cs) row rows h =
    ap (undone s cs) (put-later s c row rows (h c (inl refl))) ∙ undo-later s cs row (put_back (suc s) c rows) (λ d k. h d (inr k))

undo-from : (s : ℕ) (old new : List (List ℤ)) → SameShape old new → undone s (changes_from s old new) new ≡ old
unfolding changes_from undone
undo-from s [] [] h = refl
undo-from s [] (b ∷ new) h = let l = h.sections in absurd (omega arith)
undo-from s (a ∷ old) [] h = let l = h.sections in absurd (omega arith)
undo-from s (a ∷ old) (b ∷ new) h =
    undone-append s (changes_in s 1 a b) (changes_from (suc s) old new) (b ∷ new)
    ∙ ap (undone s (changes_from (suc s) old new)) (undo-in s 0 [] a b new refl (first-long h))
    ∙ undo-later s (changes_from (suc s) old new) a new (λ c k. (from-differs (suc s) old new c k).low)
    ∙ ap (λ (r : List (List ℤ)). a ∷ r) (undo-from (suc s) old new (rest-shape h))

pub rebuilt : (old new : List (List ℤ)) → SameShape old new → undone 1 (changes old new) new ≡ old
unfolding changes
rebuilt old new h = undo-from 1 old new h

-- ---- nothing changed, nothing listed
pub same_in : (s p : ℕ) (row : List ℤ) → changes_in s p row row ≡ []
unfolding changes_in
same_in s p [] = refl
same_in s p (a ∷ row) = listed-stays s p a a (changes_in s (suc p) row row) (same_refl a) ∙ same_in s (suc p) row

same_from : (s : ℕ) (rows : List (List ℤ)) → changes_from s rows rows ≡ []
unfolding changes_from
same_from s [] = refl
same_from s (a ∷ rows) = rw (same_in s 1 a) (same_from (suc s) rows)

pub none-listed : (rows : List (List ℤ)) → changes rows rows ≡ []
unfolding changes
none-listed rows = same_from 1 rows
