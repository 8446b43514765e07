-- Two files of one length that have the same bytes wherever the first is looked at give the same answer, place, length and rate.
-- Assumes nothing.
use Prim.Native.Nat.{ℕ, zero, suc, ◌+◌, ◌%◌, ◌≤◌, ◌<◌}
use native.Mathlib.Omega.{arith}
use mathlib.Core.Path.{◌≡◌, refl, sym, ap, ◌∙◌, subst}
use mathlib.Core.Logic.{inl, inr}
use mathlib.Core.Bool.{Bool, true, false, not}
use mathlib.Core.List.{List, ◌∷◌}
use lib.ListN.{length, get_or}
use lib.Dec.{ltb, eqb, eqb-suc-zero}
use Rattle.fixed.specs.Iter.{either}
use Rattle.wav_file.specs.Bytes.{byte, word16, word32, named}
use Rattle.wav_file.specs.Riff.{size_at, is_format, is_data, whole, after, is_last, chunks_from, chunks, first}
use Rattle.wav_file.specs.Find.{past_at, format_at, data_at, other_sound, too_long, not_wave, runs_past, no_format, other_format, no_data, odd_data, table, answer_of, accepted, refused, found}
use Rattle.wav_file.specs.Walked.{In, Looked, riff, wave, head, format, width}
use Rattle.wav_file.proofs.Firsts.{first-hit, first-same}
use Rattle.wav_file.proofs.Part.{data_is, no4, no6}
use Rattle.wav_file.proofs.Walks.{along-chunks, chunks-end, chunks-more}

-- the same bytes at n places from `at` on
abbrev pub SameFrom : List ℕ → List ℕ → ℕ → ℕ → Type 0
SameFrom f g at n = (i : ℕ) → i < n → byte f (at + i) ≡ byte g (at + i)

-- ---- numbers and names
shift : (f g : List ℕ) (at n k m : ℕ) → SameFrom f g at n → k + m ≤ n → SameFrom f g (at + k) m
shift f g at n k m h l i u = subst (λ (p : ℕ). byte f p ≡ byte g p) (omega arith) (h (k + i) (omega arith))

same16 : (f g : List ℕ) (at : ℕ) → SameFrom f g at 2 → word16 f at ≡ word16 g at
unfolding word16
same16 f g at h =
    let a : byte f at ≡ byte g at = subst (λ (p : ℕ). byte f p ≡ byte g p) (omega arith) (h 0 (omega arith)) in
    rw (a, h 1 (omega arith))

same32 : (f g : List ℕ) (at : ℕ) → SameFrom f g at 4 → word32 f at ≡ word32 g at
unfolding word32
same32 f g at h =
    let a : SameFrom f g at 2 = λ i l. h i (omega arith) in
    rw (same16 f g at a, same16 f g (at + 2) (shift f g at 4 2 2 h (omega arith)))

same_name : (f g : List ℕ) (at : ℕ) → SameFrom f g at 4 → (a b c d : ℕ) → named f at a b c d ≡ named g at a b c d
unfolding named
same_name f g at h a b c d =
    let z : byte f at ≡ byte g at = subst (λ (p : ℕ). byte f p ≡ byte g p) (omega arith) (h 0 (omega arith)) in
    rw (z, h 1 (omega arith), h 2 (omega arith), h 3 (omega arith))

-- ---- a chunk
-- what its head says is the same
pub record SameHead (f g : List ℕ) (at : ℕ) : Type 0 where
  pub size : size_at f at ≡ size_at g at
  pub fmt : is_format f at ≡ is_format g at
  pub dat : is_data f at ≡ is_data g at
  pub lies : whole f at ≡ whole g at
  pub aft : after f at ≡ after g at
  pub last : is_last f at ≡ is_last g at

-- by the eight bytes of the head, where the chunk lies in both files or in none
pub same_head : (f g : List ℕ) (at : ℕ) → (size_at f at ≡ size_at g at → whole f at ≡ whole g at) → SameFrom f g at 8 → SameHead f g at
unfolding size_at is_format is_data after is_last
same_head f g at w h =
    let n : SameFrom f g at 4 = λ i l. h i (omega arith) in
    let s = same32 f g (at + 4) (shift f g at 8 4 4 h (omega arith)) in
    let d = same_name f g at n 100 97 116 97 in
    record {
      size = s;
      fmt = same_name f g at n 102 109 116 32;
      dat = d;
      lies = w s;
      aft = rw s;
      last = rw (w s, d);
    }

-- one chunk more, and the rest of the walk is the same
pub more : (f g : List ℕ) (at : ℕ) (rest : List ℕ) → at < length g → is_last f at ≡ false → SameHead f g at → rest ≡ chunks_from g (after f at) → at ∷ rest ≡ chunks_from g at
more f g at rest k l q r =
    sym
    (chunks-more g at k
    ∙ rw (sym q.last ∙ l) (ap (λ (t : List ℕ). at ∷ t) (ap (λ (p : ℕ). chunks_from g p) (sym q.aft) ∙ sym r)))

-- ---- two files that are too long or not together, with the same bytes wherever the first is looked at, and the same walk
module _ (f g : List ℕ) (same1 : too_long f ≡ too_long g) (h : (p : ℕ) → Looked f p → byte f p ≡ byte g p)
    (heads : (at : ℕ) → In at (chunks f) → SameHead f g at) (same-chunks : chunks f ≡ chunks g) where
  same-past : past_at f ≡ past_at g
  unfolding past_at
  same-past =
      first-same (λ at. not (whole f at)) (λ at. not (whole g at)) (chunks f) (λ p i. ap not (heads p i).lies)
      ∙ ap (first (λ at. not (whole g at))) same-chunks

  same_format : format_at f ≡ format_at g
  unfolding format_at
  same_format = first-same (is_format f) (is_format g) (chunks f) (λ p i. (heads p i).fmt) ∙ ap (first (is_format g)) same-chunks

  same-data : data_at f ≡ data_at g
  unfolding data_at
  same-data = first-same (is_data f) (is_data g) (chunks f) (λ p i. (heads p i).dat) ∙ ap (first (is_data g)) same-chunks

  -- ---- the refusals
  same2 : not_wave f ≡ not_wave g
  unfolding not_wave
  same2 =
      let a : SameFrom f g 0 4 = λ i l. h (0 + i) (riff (omega arith)) in
      let b : SameFrom f g 8 4 = λ i l. h (8 + i) (wave (omega arith) (omega arith)) in
      rw (same_name f g 0 a 82 73 70 70, same_name f g 8 b 87 65 86 69)

  same3 : runs_past f ≡ runs_past g
  unfolding runs_past
  same3 = rw same-past

  size-format : 0 < format_at f → size_at f (format_at f) ≡ size_at g (format_at f)
  unfolding format_at
  size-format k = (heads (format_at f) (first-hit (is_format f) (chunks f) k).0).size

  size-data : 0 < data_at f → size_at f (data_at f) ≡ size_at g (data_at f)
  unfolding data_at
  size-data k = (heads (data_at f) (first-hit (is_data f) (chunks f) k).0).size

  same4 : no_format f ≡ no_format g
  unfolding no_format
  same4 = turn (format_at f) refl ∙ ap (λ (p : ℕ). either (eqb p 0) true (ltb (size_at g p) 16)) same_format
    where
      turn : (p : ℕ) → format_at f ≡ p → either (eqb (format_at f) 0) true (ltb (size_at f (format_at f)) 16) ≡ either (eqb (format_at f) 0) true (ltb (size_at g (format_at f)) 16)
      turn zero q = rw q
      turn (suc p) q = rw (size-format (omega arith))

  -- the first eight bytes of the first `fmt `, and its width
  fields : no_format f ≡ false → (k m j : ℕ) → j ≡ 8 + k → k + m ≤ 8 → SameFrom f g (format_at f + j) m
  fields n k m j q l i u = h (format_at f + j + i) (format n (omega arith) (omega arith))

  width_same : no_format f ≡ false → SameFrom f g (format_at f + 22) 2
  width_same n i u = h (format_at f + 22 + i) (width n (omega arith) (omega arith))

  same-sound : no_format f ≡ false → other_sound f (format_at f) ≡ other_sound g (format_at f)
  unfolding other_sound
  same-sound n =
      rw (
        same16 f g (format_at f + 8) (fields n 0 2 8 refl (omega arith)),
        same16 f g (format_at f + 10) (fields n 2 2 10 refl (omega arith)),
        same32 f g (format_at f + 12) (fields n 4 4 12 refl (omega arith)),
        same16 f g (format_at f + 22) (width_same n),
      )

  same5 : other_format f ≡ other_format g
  unfolding other_format
  same5 = turn (no_format f) refl ∙ (rw (same4, same_format))
    where
      turn : (b : Bool) → no_format f ≡ b → either (no_format f) false (other_sound f (format_at f)) ≡ either (no_format f) false (other_sound g (format_at f))
      turn true q = rw q
      turn false q = rw (same-sound q)

  same6 : no_data f ≡ no_data g
  unfolding no_data
  same6 = rw same-data

  same7 : odd_data f ≡ odd_data g
  unfolding odd_data no_data
  same7 =
      turn (data_at f) refl ∙ ap (λ (p : ℕ). either (eqb p 0) false (eqb (size_at g p % 2) 1)) same-data
    where
      turn : (p : ℕ) → data_at f ≡ p → either (eqb (data_at f) 0) false (eqb (size_at f (data_at f) % 2) 1) ≡ either (eqb (data_at f) 0) false (eqb (size_at g (data_at f) % 2) 1)
      turn zero q = rw q
      turn (suc p) q = rw (size-data (omega arith))

  same-table : table f ≡ table g
  unfolding table
  same-table = rw (same1, same2, same3, same4, same5, same6, same7)

  same_answer : answer_of f ≡ answer_of g
  unfolding answer_of
  same_answer = ap (λ (t : List Bool). either (get_or t 1 false) 1 (either (get_or t 2 false) 2 (either (get_or t 3 false) 3 (either (get_or t 4 false) 4 (either (get_or t 5 false) 5 (either (get_or t 6 false) 6 (either (get_or t 7 false) 7 0))))))) same-table

  same-accepted : answer_of f ≡ 0 → accepted f ≡ accepted g
  unfolding accepted
  same-accepted ok =
      rw (← same-data, ← same_format, same32 f g (format_at f + 12) (fields (no4 f ok) 4 4 12 refl (omega arith)), (heads (data_at f) (data_is f (no6 f ok)).0).size)

  -- the same answer, place, length and rate
  pub walked-alike : found f ≡ found g
  unfolding found
  walked-alike = turn (answer_of f) refl ∙ ap (λ (a : ℕ). either (eqb a 0) (accepted g) (refused a)) same_answer
    where
      turn : (a : ℕ) → answer_of f ≡ a → either (eqb (answer_of f) 0) (accepted f) (refused (answer_of f)) ≡ either (eqb (answer_of f) 0) (accepted g) (refused (answer_of f))
      turn zero q = rw (same-accepted q)
      turn (suc a) q = rw (q, eqb-suc-zero a)

-- ---- two files of one length
module _ (f g : List ℕ) (e : length f ≡ length g) (h : (p : ℕ) → Looked f p → byte f p ≡ byte g p) where
  heads : (at : ℕ) → In at (chunks f) → SameHead f g at
  unfolding whole
  heads at i = same_head f g at (λ s. rw (s, e)) (λ j l. h (at + j) (head at i (omega arith) (omega arith)))

  same-chunks : chunks f ≡ chunks g
  same-chunks =
      along-chunks (λ at l. ((p : ℕ) → In p l → SameHead f g p) → l ≡ chunks_from g at) f
      (λ at k q. sym (chunks-end g at (omega arith)))
      (λ at k l q. sym (chunks-more g at (omega arith) ∙ rw (sym (q at (inl refl)).last ∙ l)))
      (λ at rest k l r q. more f g at rest (omega arith) l (q at (inl refl)) (r (λ p i. q p (inr i))))
      heads

  pub same-found : found f ≡ found g
  unfolding too_long
  same-found = walked-alike f g (rw e) h heads same-chunks
