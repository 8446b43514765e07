-- A plain file is read back: it is accepted with its rate, its part begins at 44, and the second step gives the samples. Assumes nothing.
use Prim.Native.Nat.{ℕ, zero, suc, ◌+◌, ◌*◌, ◌/◌, ◌%◌, ◌^◌, ◌≤◌, ◌<◌}
use native.Mathlib.Omega.{arith}
use mathlib.Core.Path.{◌≡◌, refl, sym, ap, ◌∙◌}
use mathlib.Core.Bool.{true, false}
use mathlib.Core.List.{List, [], ◌∷◌}
use lib.ListN.{length, take, get_or}
use lib.Seq.{take-suc, take-length, take_all}
use lib.IntN.{ℤ, pos, negsuc}
use borrow.Author.Tests.{le-ltb, le-leb}
use mir.Syntax.{w16}
use mir.Val.{SFits}
use Rattle.fixed.specs.Wrap.{mod_z, wrap16}
use Rattle.fixed.proofs.Lin.{sfits-lin, mod-lin}
use Rattle.fixed.proofs.Wraps.{wrap-cong, wrap16-id}
use Rattle.wav_file.specs.Bytes.{word16, word32, named}
use Rattle.wav_file.specs.Riff.{size_at, is_format, is_data, whole, after, is_last, chunks}
use Rattle.wav_file.specs.Find.{past_at, format_at, data_at, rate_allowed, other_sound, too_long, not_wave, runs_past, no_format, other_format, no_data, odd_data, table, answer_of, accepted, found_by, found, part, part_of}
use Rattle.wav_file.specs.Fill.{sample_of, samples_of, filled, filling}
use Rattle.wav_file.specs.Plain.{put16, bytes_of, wav_of}
use Rattle.wav_file.proofs.Walks.{chunks-more}
use Rattle.wav_file.proofs.Part.{rate-most}
use Rattle.wav_file.proofs.Rows.{alike}

-- ---- numbers written and read
read16 : (n : ℕ) → n < 65536 → n % 256 + 256 * (n / 256 % 256) ≡ n
read16 n h = omega arith

read32 : (n : ℕ) → n < 65536 → n % 256 + 256 * (n / 256 % 256) + 65536 * (n / 65536 % 256 + 256 * (n / 65536 / 256 % 256)) ≡ n
read32 n h = omega arith

length-bytes : (zs : List ℤ) → length (bytes_of zs) ≡ 2 * length zs
length-bytes [] = refl
length-bytes (z ∷ zs) = omega (arith, length-bytes zs)

-- ---- the file
module _ (rate : ℕ) (zs : List ℤ) (good : rate_allowed rate ≡ true) (fits : 44 + 2 * length zs ≤ 65536) where
  abbrev f : List ℕ
  f = wav_of rate zs

  len : length f ≡ 44 + 2 * length zs
  unfolding wav_of
  len = omega (arith, length-bytes zs)

  size12 : size_at f 12 ≡ 16
  unfolding wav_of size_at word32 word16
  size12 = refl

  size36 : size_at f 36 ≡ 2 * length zs
  unfolding wav_of size_at word32 word16
  size36 = read32 (2 * length zs) (omega arith)

  rate12 : word32 f 24 ≡ rate
  unfolding wav_of word32 word16
  rate12 = read32 rate (omega (arith, rate-most rate good))

  whole12 : whole f 12 ≡ true
  unfolding whole
  whole12 = rw (size12, len) (le-leb (12 + 8 + 16) (44 + 2 * length zs) (omega arith))

  whole36 : whole f 36 ≡ true
  unfolding whole
  whole36 = rw (size36, len) (le-leb (36 + 8 + 2 * length zs) (44 + 2 * length zs) (omega arith))

  format12 : is_format f 12 ≡ true
  unfolding wav_of is_format named
  format12 = refl

  data12 : is_data f 12 ≡ false
  unfolding wav_of is_data named
  data12 = refl

  data36 : is_data f 36 ≡ true
  unfolding wav_of is_data named
  data36 = refl

  last12 : is_last f 12 ≡ false
  unfolding is_last
  last12 = rw (whole12, data12)

  last36 : is_last f 36 ≡ true
  unfolding is_last
  last36 = rw (whole36, data36)

  after12 : after f 12 ≡ 36
  unfolding after
  after12 = rw size12

  walks : chunks f ≡ 12 ∷ 36 ∷ []
  walks =
      chunks-more f 12 (omega (arith, len))
      ∙ rw (last12, after12)
      (ap (λ (l : List ℕ). 12 ∷ l) (chunks-more f 36 (omega (arith, len)) ∙ rw last36))

  past0 : past_at f ≡ 0
  unfolding past_at
  past0 = rw (walks, whole12, whole36)

  format-at : format_at f ≡ 12
  unfolding format_at
  format-at = rw (walks, format12)

  data-at : data_at f ≡ 36
  unfolding data_at
  data-at = rw (walks, data12, data36)

  no1 : too_long f ≡ false
  unfolding too_long
  no1 = le-ltb 65536 (length f) (omega (arith, len))

  no2 : not_wave f ≡ false
  unfolding not_wave named wav_of
  no2 = refl

  no3 : runs_past f ≡ false
  unfolding runs_past
  no3 = rw past0

  no4 : no_format f ≡ false
  unfolding no_format
  no4 = rw (format-at, size12)

  fields : (word16 f 20 ≡ 1) × (word16 f 22 ≡ 1) × (word16 f 34 ≡ 16)
  unfolding wav_of word16
  fields = (refl, refl, refl)

  no5 : other_format f ≡ false
  unfolding other_format other_sound
  no5 = rw (no4, format-at, fields.0, fields.1, fields.2, rate12, good)

  no6 : no_data f ≡ false
  unfolding no_data
  no6 = rw data-at

  no7 : odd_data f ≡ false
  unfolding odd_data
  no7 = rw (no6, data-at, size36, even (length zs))
    where
      even : (n : ℕ) → 2 * n % 2 ≡ 0
      even n = omega arith

  accepts : answer_of f ≡ 0
  unfolding answer_of table
  accepts = rw (no1, no2, no3, no4, no5, no6, no7)

  -- accepted, that rate, from 44 on, two bytes a sample
  pub read_back : found (wav_of rate zs) ≡ found_by 0 44 (2 * length zs) rate
  unfolding found accepted
  read_back = rw (accepts, data-at, format-at, size36, rate12)

  pub part-back : part (wav_of rate zs) 44 (2 * length zs) ≡ bytes_of zs
  unfolding part wav_of
  part-back = take_all (2 * length zs) (bytes_of zs) (omega (arith, length-bytes zs))

-- ---- the samples
back : (z : ℤ) → SFits w16 z → wrap16 (pos (mod_z z 65536)) ≡ z
unfolding wrap16
back (pos n) s =
    let b = sfits-lin s in
    let e : n % 65536 ≡ n = omega arith in
    rw e (wrap16-id s)
back (negsuc n) s =
    let b = sfits-lin s in
    wrap-cong (2 ^ 15) 0 1 (pos (mod_z (negsuc n) 65536)) (negsuc n) (omega arith) (omega arith) ∙ wrap16-id s

word_first : (n : ℕ) (s : List ℕ) → n < 65536 → word16 (put16 n s) 0 ≡ n
unfolding word16
word_first n s h = read16 n h

word-later : (n : ℕ) (s : List ℕ) (i : ℕ) → word16 (put16 n s) (2 * suc i) ≡ word16 s (2 * i)
unfolding word16
word-later n s i =
    let e : 2 * suc i ≡ suc (suc (2 * i)) = omega arith in
    let u : 2 * suc i + 1 ≡ suc (suc (2 * i + 1)) = omega arith in
    rw (u, e)

sample-back : (zs : List ℤ) → ((i : ℕ) → i < length zs → SFits w16 (get_or zs i (pos 0))) → (i : ℕ) → i < length zs
    → sample_of (bytes_of zs) i ≡ get_or zs i (pos 0)
unfolding sample_of
sample-back [] h i l = absurd (omega arith)
sample-back (z ∷ zs) h zero l = rw (word_first (mod_z z 65536) (bytes_of zs) (mod-lin z 65536 (omega arith))) (back z (h 0 (omega arith)))
sample-back (z ∷ zs) h (suc i) l =
    rw (word-later (mod_z z 65536) (bytes_of zs) i) (sample-back zs (λ j k. h (suc j) (omega arith)) i (omega arith))

samples-are : (b : List ℕ) (zs : List ℤ) → ((i : ℕ) → i < length zs → sample_of b i ≡ get_or zs i (pos 0)) → (n : ℕ) → n ≤ length zs → samples_of b n ≡ take n zs
samples-are b zs h zero l = refl
samples-are b zs h (suc n) l = rw (take-suc zs n (pos 0) l, samples-are b zs h n (omega arith), h n l)

pub samples-back : (zs : List ℤ) → ((i : ℕ) → i < length zs → SFits w16 (get_or zs i (pos 0))) → samples_of (bytes_of zs) (length zs) ≡ zs
samples-back zs h = samples-are (bytes_of zs) zs (sample-back zs h) (length zs) (omega arith) ∙ take-length zs

-- the second step, on the part that the first hands back, accepts a row of so many samples and fills it with them
pub filled-back : (rate : ℕ) (zs row : List ℤ) → rate_allowed rate ≡ true → 44 + 2 * length zs ≤ 65536
    → ((i : ℕ) → i < length zs → SFits w16 (get_or zs i (pos 0)))
    → length row ≡ length zs
    → filling (part_of (wav_of rate zs)) row ≡ filled 0 zs
filled-back rate zs row good fits h e =
    rw (read_back rate zs good fits, part-back rate zs good fits)
    (sym (alike (bytes_of zs) row (omega (arith, length-bytes zs))) ∙ rw e (ap (filled 0) (samples-back zs h)))
