-- The walk over the chunks, one chunk at a time; which places it passes. Assumes nothing.
use Prim.Native.Nat.{ℕ, zero, suc, ◌+◌, ◌-◌, ◌*◌, ◌≤◌, ◌<◌}
use native.Mathlib.Omega.{arith}
use mathlib.Core.Path.{◌≡◌, refl, sym, ap, ◌∙◌, subst}
use mathlib.Core.Logic.{inl, inr, ⊎_elim, ◌↔◌}
use mathlib.Core.Bool.{Bool, true, false, not, ◌||◌, true≢false}
use mathlib.Core.List.{List, [], ◌∷◌}
use lib.ListN.{length}
use lib.Dec.{ltb}
use borrow.Author.Tests.{ltb-true, ltb-false, lt-ltb, le-ltb}
use Rattle.fixed.specs.Iter.{either}
use Rattle.wav_file.specs.Riff.{is_data, whole, after, is_last, walk, chunks_from, chunks}
use Rattle.wav_file.specs.Walked.{In, Walked, start, next}
use Rattle.wav_file.proofs.Firsts.{clash}

-- a chunk takes eight bytes at least
pub after_more : (f : List ℕ) (at : ℕ) → at + 8 ≤ after f at
unfolding after
after_more f at = omega arith

-- ---- how many steps are allowed doesn't matter
pub walk_end : (n : ℕ) (f : List ℕ) (at : ℕ) → length f ≤ at → walk n f at ≡ []
walk_end zero f at h = refl
walk_end (suc n) f at h = rw (le-ltb at (length f) h)

pub walk-enough : (n m : ℕ) (f : List ℕ) (at : ℕ) → length f ≤ at + n → length f ≤ at + m → walk n f at ≡ walk m f at
walk-enough zero m f at h k = sym (walk_end m f at (omega arith))
walk-enough (suc n) zero f at h k = walk_end (suc n) f at (omega arith)
walk-enough (suc n) (suc m) f at h k =
    let a = after_more f at in
    ap (λ (l : List ℕ). either (ltb at (length f)) (at ∷ either (is_last f at) [] l) [])
    (walk-enough n m f (after f at) (omega arith) (omega arith))

pub chunks-end : (f : List ℕ) (at : ℕ) → length f ≤ at → chunks_from f at ≡ []
unfolding chunks_from
chunks-end f at h = walk_end (length f - at) f at h

pub chunks-more : (f : List ℕ) (at : ℕ) → at < length f
    → chunks_from f at ≡ at ∷ either (is_last f at) [] (chunks_from f (after f at))
unfolding chunks_from
chunks-more f at h =
    walk-enough (length f - at) (suc (length f)) f at (omega arith) (omega arith)
    ∙ rw (lt-ltb at (length f) h)
    (ap (λ (l : List ℕ). at ∷ either (is_last f at) [] l) (walk-enough (length f) (length f - after f at) f (after f at) (omega arith) (omega arith)))

-- ---- what holds of the walk, by going along it
-- a property of a place and of what is walked from there on
pub along : (Q : ℕ → List ℕ → Type 0) (f : List ℕ)
    → ((at : ℕ) → length f ≤ at → Q at [])
    → ((at : ℕ) → at < length f → is_last f at ≡ true → Q at (at ∷ []))
    → ((at : ℕ) (rest : List ℕ) → at < length f → is_last f at ≡ false → Q (after f at) rest → Q at (at ∷ rest))
    → (n at : ℕ) → length f ≤ at + n → Q at (walk n f at)
along Q f e l m zero at h = e at (omega arith)
along Q f e l m (suc n) at h =
    let a = after_more f at in
    turn (ltb at (length f)) (is_last f at) refl refl (along Q f e l m n (after f at) (omega arith))
  where
    turn : (b c : Bool) → ltb at (length f) ≡ b → is_last f at ≡ c → Q (after f at) (walk n f (after f at))
        → Q at (either b (at ∷ either c [] (walk n f (after f at))) [])
    turn true true u v q = l at (ltb-true at (length f) u) v
    turn true false u v q = m at (walk n f (after f at)) (ltb-true at (length f) u) v q
    turn false c u v q = e at (ltb-false at (length f) u)

pub along-chunks : (Q : ℕ → List ℕ → Type 0) (f : List ℕ)
    → ((at : ℕ) → length f ≤ at → Q at [])
    → ((at : ℕ) → at < length f → is_last f at ≡ true → Q at (at ∷ []))
    → ((at : ℕ) (rest : List ℕ) → at < length f → is_last f at ≡ false → Q (after f at) rest → Q at (at ∷ rest))
    → Q 12 (chunks f)
unfolding chunks_from
along-chunks Q f e l m = along Q f e l m (length f - 12) 12 (omega arith)

-- .. where all of the rest lies behind the chunk
pub along-ordered : (Q : ℕ → List ℕ → Type 0) (f : List ℕ)
    → ((at : ℕ) → length f ≤ at → Q at [])
    → ((at : ℕ) → at < length f → is_last f at ≡ true → Q at (at ∷ []))
    → ((at : ℕ) (rest : List ℕ) → at < length f → is_last f at ≡ false → ((p : ℕ) → In p rest → after f at ≤ p) → Q (after f at) rest → Q at (at ∷ rest))
    → Q 12 (chunks f)
along-ordered Q f e l m =
    (along-chunks (λ at s. ((p : ℕ) → In p s → at ≤ p) × Q at s) f
    (λ at h. ((λ p i. absurd i), e at h))
    (λ at h k. ((λ p i. ⊎_elim (λ (u : p ≡ at). omega arith) (λ i. absurd i) i), l at h k))
    (λ at rest h k r. (
      (λ p i. ⊎_elim (λ (u : p ≡ at). omega arith) (λ (j : In p rest). omega (arith, r.0 p j, after_more f at)) i),
      m at rest h k r.0 r.1,
    ))
    ).1

-- ---- the last of a walk
last-parts : (b c : Bool) → not b || c ≡ false → (b ≡ true) × (c ≡ false)
last-parts true c h = (refl, h)
last-parts false c h = absurd (true≢false h)

pub not_last : (f : List ℕ) (at : ℕ) → is_last f at ≡ false → (whole f at ≡ true) × (is_data f at ≡ false)
unfolding is_last
not_last f at h = last-parts (whole f at) (is_data f at) h

pub is-not-last : (f : List ℕ) (at : ℕ) → whole f at ≡ true → is_data f at ≡ false → is_last f at ≡ false
unfolding is_last
is-not-last f at w d = rw (w, d)

-- ---- the walked chunks are the list's
-- each lies in the file, and none before place 12
pub places : (f : List ℕ) (p : ℕ) → In p (chunks f) → (12 ≤ p) × (p < length f)
places f p =
    along-ordered (λ at l. In p l → (at ≤ p) × (p < length f)) f
    (λ at h i. absurd i)
    (λ at h l i. ⊎_elim (λ (e : p ≡ at). omega arith) (λ i. absurd i) i)
    (λ at rest h l o q i. ⊎_elim (λ (e : p ≡ at). omega arith) (λ (j : In p rest). omega (arith, q j, after_more f at)) i)

pub in-walked : (f : List ℕ) (p : ℕ) → In p (chunks f) → Walked f p
in-walked f p =
    along-chunks (λ at l. (at < length f → Walked f at) → In p l → Walked f p) f
    (λ at h w i. absurd i)
    (λ at h l w i. ⊎_elim (λ (e : p ≡ at). rw e (w h)) (λ i. absurd i) i)
    (λ at rest h l q w i.
    ⊎_elim (λ (e : p ≡ at). rw e (w h))
    (λ (i : In p rest). q (λ k. next (w h) (not_last f at l).0 (not_last f at l).1 k) i)
    i)
    start

-- the place behind a walked chunk that isn't the last is the list's too
next-in : (f : List ℕ) (p : ℕ) → is_last f p ≡ false → after f p < length f → In p (chunks f) → In (after f p) (chunks f)
next-in f p w k =
    (along-chunks (λ at l. (at < length f → In at l) × (In p l → In (after f p) l)) f
    (λ at h. ((λ g. absurd (omega arith)), (λ i. absurd i)))
    (λ at h l. ((λ g. inl refl), (λ i. ⊎_elim (λ (e : p ≡ at). absurd (clash (is_last f at) l (subst (λ (x : ℕ). is_last f x ≡ false) e w))) (λ i. absurd i) i)))
    (λ at rest h l q. (
      (λ g. inl refl),
      (λ i. ⊎_elim (λ (e : p ≡ at). inr (subst (λ (x : ℕ). In (after f x) rest) (sym e) (q.0 (subst (λ (x : ℕ). after f x < length f) e k)))) (λ (i : In p rest). inr (q.1 i)) i),
    ))
    ).1

first-in : (f : List ℕ) → 12 < length f → In 12 (chunks f)
first-in f h = rw (chunks-more f 12 h) (inl refl)

pub walked-in : (f : List ℕ) (p : ℕ) → Walked f p → In p (chunks f)
walked-in f p (start h) = first-in f h
walked-in f p (next {at = at} w u d h) = next-in f at (is-not-last f at u d) h (walked-in f at w)

-- the list has exactly the walked chunks
pub walked-exactly : (f : List ℕ) (p : ℕ) → Walked f p ↔ In p (chunks f)
walked-exactly f p = (walked-in f p, in-walked f p)

-- ---- how many there are
-- each takes eight bytes at least, but for the last, which takes one
few-from : (f : List ℕ) → 8 * length (chunks f) ≤ length f + 7 - 12
few-from f =
    along-chunks (λ at l. 8 * length l ≤ length f + 7 - at) f
    (λ at h. omega arith)
    (λ at h l. omega arith)
    (λ at rest h l q. omega (arith, after_more f at))

-- so no more than 8,191 are walked, in a file that isn't too long
pub few-chunks : (f : List ℕ) → length f ≤ 65536 → length (chunks f) ≤ 8191
few-chunks f h = omega (arith, few-from f)
