-- The part of an accepted file lies in the file and is the first `data`'s content. Assumes nothing.
use Prim.Native.Nat.{ℕ, zero, suc, ◌+◌, ◌%◌, ◌≤◌, ◌<◌}
use native.Mathlib.Omega.{arith}
use native.Mathlib.Nat.{mod-lt}
use mathlib.Core.Path.{◌≡◌, refl, ◌∙◌, subst}
use mathlib.Core.Logic.{⊎_elim}
use mathlib.Core.Bool.{Bool, true, false, not, ◌&&◌, ◌||◌}
use mathlib.Core.List.{List}
use lib.ListN.{length, length-take, length-drop}
use lib.Dec.{ltb, eqb, eqb-suc-zero}
use borrow.Author.Tests.{ltb-false, leb-true, eqb-true, eqb-false, not-false}
use Rattle.fixed.specs.Iter.{either}
use Rattle.fixed.proofs.Iters.{either-all}
use Rattle.wav_file.specs.Bytes.{word16, word32}
use Rattle.wav_file.specs.Riff.{size_at, is_format, is_data, whole, is_last, chunks, first}
use Rattle.wav_file.specs.Find.{past_at, format_at, data_at, rate_allowed, other_sound, runs_past, no_format, other_format, no_data, odd_data, too_long, table, answer_of, accepted, refused, found, part, part_of}
use Rattle.wav_file.specs.Walked.{In}
use Rattle.wav_file.specs.Shown.{IsData, IsFormat}
use Rattle.wav_file.proofs.Apart.{Apart, one, up, down, apart, after_is, data-last, two-names}
use Rattle.wav_file.proofs.Exactly.{exactly-accepted}
use Rattle.wav_file.proofs.Firsts.{clash, first-hit, first-none}
use Rattle.wav_file.proofs.Walks.{after_more, along-chunks, along-ordered, not_last, places, in-walked, walked-in}

nonzero : (n : ℕ) → eqb n 0 ≡ false → 0 < n
nonzero zero h = absurd (eqb-false 0 0 h refl)
nonzero (suc n) h = omega arith

-- ---- the three chunks
-- the `data` found is the only one: the walk ends there
pub only-data : (f : List ℕ) (p : ℕ) → In p (chunks f) → is_data f p ≡ true → p ≡ data_at f
unfolding data_at
only-data f p =
    along-chunks (λ at l. In p l → is_data f p ≡ true → p ≡ first (is_data f) l) f
    (λ at h i d. absurd i)
    (λ at h l i d. ⊎_elim (λ (e : p ≡ at). rw (subst (λ (x : ℕ). is_data f x ≡ true) e d) e) (λ i. absurd i) i)
    (λ at rest h l q i d.
    rw (not_last f at l).1
    (⊎_elim (λ (e : p ≡ at). absurd (clash (is_data f at) (subst (λ (x : ℕ). is_data f x ≡ true) e d) (not_last f at l).1)) (λ (j : In p rest). q j d) i))

-- the first that passes a test is the one at the lowest place
pub lowest-place : (t : ℕ → Bool) (f : List ℕ) (p : ℕ) → In p (chunks f) → t p ≡ true → first t (chunks f) ≤ p
lowest-place t f p =
    along-ordered (λ at l. In p l → t p ≡ true → first t l ≤ p) f
    (λ at h i d. absurd i)
    (λ at h l i d. ⊎_elim (λ (e : p ≡ at). rw (subst (λ (x : ℕ). t x ≡ true) e d) (omega arith)) (λ i. absurd i) i)
    (λ at rest h l o r i d.
    ⊎_elim (λ (e : p ≡ at). rw (subst (λ (x : ℕ). t x ≡ true) e d) (omega arith))
    (λ (j : In p rest). either-all (λ (n : ℕ). n ≤ p) (t at) at (first t rest) (λ e. omega (arith, o p j, after_more f at)) (λ e. r j d))
    i)

pub lowest-format : (f : List ℕ) (p : ℕ) → In p (chunks f) → is_format f p ≡ true → format_at f ≤ p
unfolding format_at
lowest-format f p i h = lowest-place (is_format f) f p i h

-- ---- where a number doesn't apply
pub all_whole : (f : List ℕ) → runs_past f ≡ false → (p : ℕ) → In p (chunks f) → whole f p ≡ true
unfolding runs_past past_at
all_whole f h p i =
    not-false (whole f p)
    (first-none (λ at. not (whole f at)) (chunks f) (λ q j. omega (arith, places f q j)) (eqb-true (first (λ at. not (whole f at)) (chunks f)) 0 (not-false _ h)) p i)

pub record FormatIs (f : List ℕ) : Type 0 where
  pub within : In (format_at f) (chunks f)
  pub name : is_format f (format_at f) ≡ true
  pub size : 16 ≤ size_at f (format_at f)

pub format-is : (f : List ℕ) → no_format f ≡ false → FormatIs f
unfolding no_format format_at
format-is f h = turn (eqb (format_at f) 0) refl h
  where
    turn : (b : Bool) → eqb (format_at f) 0 ≡ b → either b true (ltb (size_at f (format_at f)) 16) ≡ false → FormatIs f
    turn true e h = absurd (clash true refl h)
    turn false e h =
        let hit = first-hit (is_format f) (chunks f) (nonzero (format_at f) e) in
        record { within = hit.0; name = hit.1; size = ltb-false (size_at f (format_at f)) 16 h }

pub data_is : (f : List ℕ) → no_data f ≡ false → In (data_at f) (chunks f) × (is_data f (data_at f) ≡ true)
unfolding no_data data_at
data_is f h = first-hit (is_data f) (chunks f) (nonzero (data_at f) h)

pub sound-is : (f : List ℕ) (at : ℕ) → other_sound f at ≡ false
    → (word16 f (at + 8) ≡ 1) × (word16 f (at + 10) ≡ 1) × (rate_allowed (word32 f (at + 12)) ≡ true) × (word16 f (at + 22) ≡ 16)
unfolding other_sound
sound-is f at h =
    turn (eqb (word16 f (at + 8)) 1) (eqb (word16 f (at + 10)) 1) (rate_allowed (word32 f (at + 12))) (eqb (word16 f (at + 22)) 16) refl refl refl refl (not-false _ h)
  where
    turn : (a b c d : Bool) → eqb (word16 f (at + 8)) 1 ≡ a → eqb (word16 f (at + 10)) 1 ≡ b → rate_allowed (word32 f (at + 12)) ≡ c → eqb (word16 f (at + 22)) 16 ≡ d
        → a && (b && (c && d)) ≡ true
        → (word16 f (at + 8) ≡ 1) × (word16 f (at + 10) ≡ 1) × (rate_allowed (word32 f (at + 12)) ≡ true) × (word16 f (at + 22) ≡ 16)
    turn true true true d x y z w e = (eqb-true _ _ x, eqb-true _ _ y, z, eqb-true _ _ (w ∙ e))
    turn true true false d x y z w e = absurd (clash false e refl)
    turn true false c d x y z w e = absurd (clash false e refl)
    turn false b c d x y z w e = absurd (clash false e refl)

-- no rate is above 16000
pub rate-most : (n : ℕ) → rate_allowed n ≡ true → n ≤ 16000
unfolding rate_allowed
rate-most n h = turn (eqb n 8000) (eqb n 12000) refl refl h
  where
    turn : (a b : Bool) → eqb n 8000 ≡ a → eqb n 12000 ≡ b → a || (b || eqb n 16000) ≡ true → n ≤ 16000
    turn true b x y e = omega (arith, eqb-true n 8000 x)
    turn false true x y e = omega (arith, eqb-true n 12000 y)
    turn false false x y e = omega (arith, eqb-true n 16000 e)

even-of : (n : ℕ) → eqb (n % 2) 1 ≡ false → n % 2 ≡ 0
even-of n h =
    let l : n % 2 < 2 = mod-lt n (omega arith) in
    turn (n % 2) l (eqb-false (n % 2) 1 h)
  where
    turn : (r : ℕ) → r < 2 → (r ≡ 1 → ⊥) → r ≡ 0
    turn zero l k = refl
    turn (suc zero) l k = absurd (k refl)
    turn (suc (suc r)) l k = absurd (omega arith)

-- ---- an accepted file
module _ (f : List ℕ) (ok : answer_of f ≡ 0) where
  pub accepted-found : found f ≡ accepted f
  unfolding found
  accepted-found = rw ok

  pub no3 : runs_past f ≡ false
  unfolding table
  no3 = (exactly-accepted f).0 ok 3 (omega arith) (omega arith)

  pub no4 : no_format f ≡ false
  unfolding table
  no4 = (exactly-accepted f).0 ok 4 (omega arith) (omega arith)

  no5 : other_format f ≡ false
  unfolding table
  no5 = (exactly-accepted f).0 ok 5 (omega arith) (omega arith)

  pub no6 : no_data f ≡ false
  unfolding table
  no6 = (exactly-accepted f).0 ok 6 (omega arith) (omega arith)

  no7 : odd_data f ≡ false
  unfolding table
  no7 = (exactly-accepted f).0 ok 7 (omega arith) (omega arith)

  same-sound : other_sound f (format_at f) ≡ false
  unfolding other_format
  same-sound = rw no4 at no5

  even-size : size_at f (data_at f) % 2 ≡ 0
  unfolding odd_data
  even-size = even-of (size_at f (data_at f)) (rw no6 at no7)

  pub data-inside : data_at f + 8 + size_at f (data_at f) ≤ length f
  unfolding whole
  data-inside = leb-true _ _ (all_whole f no3 (data_at f) (data_is f no6).0)

  pub accepted-start : (found f).start ≡ data_at f + 8
  unfolding accepted
  accepted-start = rw accepted-found

  pub accepted-length : (found f).length ≡ size_at f (data_at f)
  unfolding accepted
  accepted-length = rw accepted-found

  pub part-is-data : IsData f (found f)
  unfolding accepted part
  part-is-data =
      let d = data_is f no6 in
      let i = data-inside in
      rw accepted-found
      (record {
        at = data_at f;
        walked = in-walked f (data_at f) d.0;
        name = d.1;
        only = λ p w h. only-data f p (walked-in f p w) h;
        place = refl;
        size = refl;
        even = even-size;
        inside = i;
        bytes = simp (length-take, length-drop) (omega arith);
      })

  pub format-is-first : IsFormat f (found f)
  unfolding accepted
  format-is-first =
      let d = format-is f no4 in
      let s = sound-is f (format_at f) same-sound in
      rw accepted-found
      (record {
        at = format_at f;
        walked = in-walked f (format_at f) d.within;
        name = d.name;
        earliest = λ p w h. lowest-format f p (walked-in f p w) h;
        size = d.size;
        coding = s.0;
        channels = s.1;
        width = s.3;
        rate = refl;
        allowed = s.2;
      })

  -- the `fmt `, with its 16 bytes, lies before the `data`
  pub format-before : format_at f + 24 ≤ data_at f
  format-before = turn (apart f (format_at f) (data_at f) d.within b.0)
    where
      d : FormatIs f
      d = format-is f no4

      b : In (data_at f) (chunks f) × (is_data f (data_at f) ≡ true)
      b = data_is f no6

      turn : Apart f (format_at f) (data_at f) → format_at f + 24 ≤ data_at f
      turn (one e) = absurd (two-names f (data_at f) b.1 (subst (λ (p : ℕ). is_format f p ≡ true) e d.name))
      turn (up h l) = omega (arith, after_is f (format_at f), d.size)
      turn (down h l) = absurd (clash (is_last f (data_at f)) (data-last f b.0) l)

  -- the part begins behind RIFF's 12 bytes, the `fmt ` and the head of the `data`
  pub found-earliest : 44 ≤ (found f).start
  found-earliest = omega (arith, accepted-start, format-before, places f (format_at f) (format-is f no4).within)

-- the part of any file lies in it: a refused one's is empty
pub found_inside : (f : List ℕ) → (found f).start + (found f).length ≤ length f
unfolding found
found_inside f = turn (answer_of f) refl
  where
    turn : (a : ℕ) → answer_of f ≡ a → (either (eqb (answer_of f) 0) (accepted f) (refused (answer_of f))).start + (either (eqb (answer_of f) 0) (accepted f) (refused (answer_of f))).length ≤ length f
    turn zero q = (part-is-data f q).inside
    turn (suc a) q = rw (q, eqb-suc-zero a) (omega arith)

-- and is as long as is said
pub part_length : (f : List ℕ) → length (part_of f) ≡ (found f).length
unfolding part
part_length f = simp (length-take, length-drop) (omega (arith, found_inside f))

pub short-file : (f : List ℕ) → answer_of f ≡ 0 → length f ≤ 65536
unfolding table too_long
short-file f ok = ltb-false 65536 (length f) ((exactly-accepted f).0 ok 1 (omega arith) (omega arith))

-- and ends at 65,536 at the latest, whatever the file's length
pub found-small : (f : List ℕ) → (found f).start + (found f).length ≤ 65536
unfolding found
found-small f = turn (answer_of f) refl
  where
    turn : (a : ℕ) → answer_of f ≡ a → (either (eqb (answer_of f) 0) (accepted f) (refused (answer_of f))).start + (either (eqb (answer_of f) 0) (accepted f) (refused (answer_of f))).length ≤ 65536
    turn zero q = let i = (part-is-data f q).inside in omega (arith, short-file f q)
    turn (suc a) q = rw (q, eqb-suc-zero a) (omega arith)

-- so no part is longer than 65,492 bytes, which are 32,746 samples
pub found-most : (f : List ℕ) → (found f).length ≤ 65492
unfolding found
found-most f = turn (answer_of f) refl
  where
    turn : (a : ℕ) → answer_of f ≡ a → (either (eqb (answer_of f) 0) (accepted f) (refused (answer_of f))).length ≤ 65492
    turn zero q = omega (arith, (part-is-data f q).inside, found-earliest f q, short-file f q)
    turn (suc a) q = rw (q, eqb-suc-zero a) (omega arith)
