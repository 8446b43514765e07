-- Which answer is given, by the tests in the order of the numbers. Assumes nothing.
use Prim.Native.Nat.{ℕ, zero, suc, ◌+◌, ◌%◌, ◌≤◌, ◌<◌}
use native.Mathlib.Omega.{arith}
use mathlib.Core.Path.{◌≡◌, refl, ap}
use mathlib.Core.Bool.{Bool, true, false, not, ◌&&◌}
use mathlib.Core.Logic.{◌⊎◌, inl, inr, ⊎_elim}
use mathlib.Core.List.{List}
use lib.ListN.{length, get_or-eq_default}
use lib.Dec.{eqb}
use borrow.Author.Tests.{lt-ltb, le-ltb, eq-eqb, ne_eqb}
use Rattle.fixed.specs.Iter.{either}
use Rattle.wav_file.specs.Bytes.{byte, named}
use Rattle.wav_file.specs.Riff.{size_at, is_format, is_data, chunks, first}
use Rattle.wav_file.specs.Find.{format_at, data_at, other_sound, too_long, not_wave, runs_past, no_format, other_format, no_data, odd_data, table, answer_of, accepted, refused, found}
use Rattle.std.specs.Prelude.{Some, None, Ok, Err}
use Rattle.wav_file.specs.declared.refusal.Refusal.{Refusal}
use Rattle.wav_file.specs.declared.refusal.Refusal.TheVariants.{RunsPast, NoFormat, OtherFormat, NoData, OddData}
use Rattle.wav_file.specs.Number.{number}
use Rattle.wav_file.specs.Marks.{place, marks_of, format_answer, data_answer}
use Rattle.wav_file.specs.declared.chunks.Marks.{Marks}
use Rattle.wav_file.proofs.Firsts.{first-hit}
use Rattle.wav_file.proofs.Part.{all_whole, format-is, data_is}
use Rattle.wav_file.proofs.Going.{whole_le}

-- four tests, two by two
pub two-and-two : (a b c d : Bool) → (a && b) && (c && d) ≡ a && (b && (c && d))
two-and-two true b c d = refl
two-and-two false b c d = refl

-- ---- 1 and 2
is-long : (f : List ℕ) → 65536 < length f → too_long f ≡ true
unfolding too_long
is-long f h = lt-ltb 65536 (length f) h

not-long : (f : List ℕ) → length f ≤ 65536 → too_long f ≡ false
unfolding too_long
not-long f h = le-ltb 65536 (length f) h

pub give1 : (f : List ℕ) → 65536 < length f → found f ≡ refused 1
unfolding found answer_of table
give1 f h = rw (is-long f h)

pub give2 : (f : List ℕ) → length f ≤ 65536 → not_wave f ≡ true → found f ≡ refused 2
unfolding found answer_of table
give2 f h w = rw (not-long f h, w)

-- a file of fewer than 12 bytes has no `WAVE`
pub too_short : (f : List ℕ) → length f < 12 → not_wave f ≡ true
unfolding not_wave named
too_short f h = rw (get_or-eq_default f 0 {n = 11} (omega arith)) (turn (named f 0 82 73 70 70) (eqb (byte f 8) 87) (eqb (byte f 9) 65) (eqb (byte f 10) 86))
  where
    turn : (a b c d : Bool) → not (a && (b && (c && (d && false)))) ≡ true
    turn true true true true = refl
    turn true true true false = refl
    turn true true false d = refl
    turn true false c d = refl
    turn false b c d = refl

-- ---- a place that the walk hands on
-- there is none
pub no_place : (n : ℕ) → None ≡ place n → n ≡ 0
no_place zero h = refl
no_place (suc n) h = absurd cc

-- there is one
pub at_place : (at n : ℕ) → Some at ≡ place n → (at ≡ n) × (n ≡ 0 → ⊥)
at_place at zero h = absurd cc
at_place at (suc n) h = (cc, λ e. omega arith)

-- ---- 3 to 7, by what the walk hands on
pub record Marked (f : List ℕ) (m : Marks) : Type 0 where
  pub no3 : runs_past f ≡ false
  pub format : m.format ≡ place (format_at f)
  pub body : m.body ≡ place (data_at f)

pub marked : (f : List ℕ) (m : Marks) → Ok m ≡ marks_of f → Marked f m
unfolding marks_of
marked f m e = turn (runs_past f) refl e
  where
    turn : (b : Bool) → runs_past f ≡ b → Ok m ≡ either b (Err RunsPast) (Ok (record { format = place (format_at f); body = place (data_at f) })) → Marked f m
    turn true q e = absurd cc
    turn false q e =
        let k : m ≡ record { format = place (format_at f); body = place (data_at f) } = cc in
        record { no3 = q; format = ap (λ (x : Marks). x.format) k; body = ap (λ (x : Marks). x.body) k }

pub runs : (f : List ℕ) (k : Refusal) → Err k ≡ marks_of f → (runs_past f ≡ true) × (k ≡ RunsPast)
unfolding marks_of
runs f k e = turn (runs_past f) (record { format = place (format_at f); body = place (data_at f) }) refl e
  where
    turn : (b : Bool) (m : Marks) → runs_past f ≡ b → Err k ≡ either b (Err RunsPast) (Ok m) → (runs_past f ≡ true) × (k ≡ RunsPast)
    turn true m q e = (q, cc)
    turn false m q e = absurd cc

positive : (n : ℕ) → (n ≡ 0 → ⊥) → 0 < n
positive n h = omega arith

-- the first that passes a test lies in the file
first_fits : (t : ℕ → Bool) (f : List ℕ) → runs_past f ≡ false → 0 < first t (chunks f) → first t (chunks f) + 8 + size_at f (first t (chunks f)) ≤ length f
first_fits t f h k = whole_le f (first t (chunks f)) (all_whole f h (first t (chunks f)) (first-hit t (chunks f) k).0)

pub format-at-fits : (f : List ℕ) → runs_past f ≡ false → (format_at f ≡ 0 → ⊥) → format_at f + 8 + size_at f (format_at f) ≤ length f
unfolding format_at
format-at-fits f h k = first_fits (is_format f) f h (positive (first (is_format f) (chunks f)) k)

pub data-at-fits : (f : List ℕ) → runs_past f ≡ false → (data_at f ≡ 0 → ⊥) → data_at f + 8 + size_at f (data_at f) ≤ length f
unfolding data_at
data-at-fits f h k = first_fits (is_data f) f h (positive (first (is_data f) (chunks f)) k)

-- the tests' values
no-format-none : (f : List ℕ) → format_at f ≡ 0 → no_format f ≡ true
unfolding no_format
no-format-none f e = rw e

no-format-short : (f : List ℕ) → (format_at f ≡ 0 → ⊥) → size_at f (format_at f) < 16 → no_format f ≡ true
unfolding no_format
no-format-short f n h = rw (ne_eqb (format_at f) 0 n, lt-ltb (size_at f (format_at f)) 16 h)

has-format : (f : List ℕ) → (format_at f ≡ 0 → ⊥) → 16 ≤ size_at f (format_at f) → no_format f ≡ false
unfolding no_format
has-format f n h = rw (ne_eqb (format_at f) 0 n, le-ltb (size_at f (format_at f)) 16 h)

sound-as : (f : List ℕ) (b : Bool) → no_format f ≡ false → other_sound f (format_at f) ≡ b → other_format f ≡ b
unfolding other_format
sound-as f b n e = rw n e

no-data : (f : List ℕ) → data_at f ≡ 0 → no_data f ≡ true
unfolding no_data
no-data f e = eq-eqb (data_at f) 0 e

has-data : (f : List ℕ) → (data_at f ≡ 0 → ⊥) → no_data f ≡ false
unfolding no_data
has-data f n = ne_eqb (data_at f) 0 n

odd-data : (f : List ℕ) → (data_at f ≡ 0 → ⊥) → size_at f (data_at f) % 2 ≡ 1 → odd_data f ≡ true
unfolding odd_data
odd-data f n e = rw (has-data f n) (eq-eqb (size_at f (data_at f) % 2) 1 e)

even-data : (f : List ℕ) → (data_at f ≡ 0 → ⊥) → (size_at f (data_at f) % 2 ≡ 1 → ⊥) → odd_data f ≡ false
unfolding odd_data
even-data f n e = rw (has-data f n) (ne_eqb (size_at f (data_at f) % 2) 1 e)

-- ---- 4 and 5
pub format-none : (f : List ℕ) → format_at f ≡ 0 → Err NoFormat ≡ format_answer f
unfolding format_answer
format-none f e = rw (no-format-none f e)

pub format-short : (f : List ℕ) → (format_at f ≡ 0 → ⊥) → size_at f (format_at f) < 16 → Err NoFormat ≡ format_answer f
unfolding format_answer
format-short f n h = rw (no-format-short f n h)

pub format-sound : (f : List ℕ) (b : Bool) → (format_at f ≡ 0 → ⊥) → 16 ≤ size_at f (format_at f) → other_sound f (format_at f) ≡ b → either b (Err OtherFormat) (Ok (format_at f)) ≡ format_answer f
unfolding format_answer
format-sound f b n h e = rw (has-format f n h, sound-as f b (has-format f n h) e)

-- ---- 6 and 7
pub data-none : (f : List ℕ) → data_at f ≡ 0 → Err NoData ≡ data_answer f
unfolding data_answer
data-none f e = rw (no-data f e)

pub data-odd : (f : List ℕ) → (data_at f ≡ 0 → ⊥) → size_at f (data_at f) % 2 ≡ 1 → Err OddData ≡ data_answer f
unfolding data_answer
data-odd f n e = rw (has-data f n, odd-data f n e)

pub data-even : (f : List ℕ) → (data_at f ≡ 0 → ⊥) → (size_at f (data_at f) % 2 ≡ 1 → ⊥) → Ok (data_at f) ≡ data_answer f
unfolding data_answer
data-even f n e = rw (has-data f n, even-data f n e)

-- ---- 3 to 7, one after the other
-- the first of two tests that holds refuses; else there is a place
first-of-two : (a b : Bool) {j k e : Refusal} (at : ℕ) → Err e ≡ either a (Err j) (either b (Err k) (Ok at)) → ((a ≡ true) × (e ≡ j)) ⊎ ((a ≡ false) × ((b ≡ true) × (e ≡ k)))
first-of-two true b at h = inl (refl, cc)
first-of-two false true at h = inr (refl, (refl, cc))
first-of-two false false at h = absurd cc

none-of-two : (a b : Bool) (j k : Refusal) {at p : ℕ} → Ok p ≡ either a (Err j) (either b (Err k) (Ok at)) → (a ≡ false) × ((b ≡ false) × (p ≡ at))
none-of-two true b j k h = absurd cc
none-of-two false true j k h = absurd cc
none-of-two false false j k h = (refl, (refl, cc))

module _ (f : List ℕ) (short : length f ≤ 65536) (wave : not_wave f ≡ false) where
  pub give3 : runs_past f ≡ true → found f ≡ refused 3
  unfolding found answer_of table
  give3 p = rw (not-long f short, wave, p)

  module _ (inside : runs_past f ≡ false) where
    pub give-format : (k : Refusal) → Err k ≡ format_answer f → refused (number k) ≡ found f
    unfolding found answer_of table format_answer
    give-format k e =
        ⊎_elim
        (λ (h : (no_format f ≡ true) × (k ≡ NoFormat)). rw (h.1, not-long f short, wave, inside, h.0))
        (λ (h : (no_format f ≡ false) × ((other_format f ≡ true) × (k ≡ OtherFormat))). rw (h.1.1, not-long f short, wave, inside, h.0, h.1.0))
        (first-of-two (no_format f) (other_format f) (format_at f) e)

    module _ (p : ℕ) (sound : Ok p ≡ format_answer f) where
      formats : (no_format f ≡ false) × ((other_format f ≡ false) × (p ≡ format_at f))
      unfolding format_answer
      formats = none-of-two (no_format f) (other_format f) NoFormat OtherFormat sound

      pub give-data : (k : Refusal) → Err k ≡ data_answer f → refused (number k) ≡ found f
      unfolding found answer_of table data_answer
      give-data k e =
          ⊎_elim
          (λ (h : (no_data f ≡ true) × (k ≡ NoData)). rw (h.1, not-long f short, wave, inside, formats.0, formats.1.0, h.0))
          (λ (h : (no_data f ≡ false) × ((odd_data f ≡ true) × (k ≡ OddData))). rw (h.1.1, not-long f short, wave, inside, formats.0, formats.1.0, h.0, h.1.0))
          (first-of-two (no_data f) (odd_data f) (data_at f) e)

      pub give0 : (q : ℕ) → Ok q ≡ data_answer f → accepted f ≡ found f
      unfolding found answer_of table data_answer
      give0 q e = let d = none-of-two (no_data f) (odd_data f) NoData OddData e in rw (not-long f short, wave, inside, formats.0, formats.1.0, d.0, d.1.0)

-- ---- what is read of an accepted file lies in it
pub format-room : (f : List ℕ) (p : ℕ) → runs_past f ≡ false → Ok p ≡ format_answer f → (p ≡ format_at f) × (p + 24 ≤ length f)
unfolding format_answer
format-room f p h e =
    let k = none-of-two (no_format f) (other_format f) NoFormat OtherFormat e in
    let d = format-is f k.0 in
    (k.1.1, omega (arith, k.1.1, d.size, whole_le f (format_at f) (all_whole f h (format_at f) d.within)))

pub data-room : (f : List ℕ) (p : ℕ) → runs_past f ≡ false → Ok p ≡ data_answer f → (p ≡ data_at f) × (p + 8 + size_at f p ≤ length f)
unfolding data_answer
data-room f p h e =
    let k = none-of-two (no_data f) (odd_data f) NoData OddData e in
    (k.1.1, rw k.1.1 (whole_le f (data_at f) (all_whole f h (data_at f) (data_is f k.0).0)))
