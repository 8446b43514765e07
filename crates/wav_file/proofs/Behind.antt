-- What is behind the first `data` doesn't matter, not even how much it is: a file that has the same bytes as an accepted one up to the end of its part
-- is accepted too, with the same part. Assumes nothing.
use Prim.Native.Nat.{ℕ, ◌+◌, ◌≤◌, ◌<◌}
use native.Mathlib.Omega.{arith}
use native.Mathlib.Nat.{min-le_right}
use mathlib.Core.Path.{◌≡◌, refl, sym, ap, ◌∙◌, subst}
use mathlib.Core.Logic.{inl, inr, ⊎_elim}
use mathlib.Core.Bool.{true, false}
use mathlib.Core.List.{List}
use lib.ListN.{length, get_or, take, drop, length-take}
use lib.Seq.{length-take-le, get_or-take}
use borrow.Author.Tests.{le-leb, le-ltb}
use Rattle.fixed.proofs.Parts.{drop-take}
use Rattle.wav_file.specs.Bytes.{byte}
use Rattle.wav_file.specs.Riff.{size_at, whole, is_last, chunks_from, chunks}
use Rattle.wav_file.specs.Find.{format_at, data_at, too_long, answer_of, found, part, part_of}
use Rattle.wav_file.specs.Walked.{In, Looked, riff, wave, head, format, width}
use Rattle.wav_file.proofs.Firsts.{clash}
use Rattle.wav_file.proofs.Walks.{along-chunks, chunks-more, places}
use Rattle.wav_file.proofs.Apart.{Apart, one, up, down, apart, after_is, data-last}
use Rattle.wav_file.proofs.Part.{all_whole, format-is, format-before, data_is, found_inside, short-file, no3, no4, no6, accepted-start, accepted-length}
use Rattle.wav_file.proofs.Same.{SameHead, same_head, more, walked-alike}

-- ---- an accepted file
module _ (f : List ℕ) (ok : answer_of f ≡ 0) where
  last : is_last f (data_at f) ≡ true
  last = data-last f (data_is f (no6 f ok)).0

  -- every walked chunk ends where the part ends, or before
  before : (at : ℕ) → In at (chunks f) → at + 8 + size_at f at ≤ (found f).start + (found f).length
  before at i = rw (accepted-start f ok, accepted-length f ok) (turn (apart f at (data_at f) i (data_is f (no6 f ok)).0))
    where
      turn : Apart f at (data_at f) → at + 8 + size_at f at ≤ data_at f + 8 + size_at f (data_at f)
      turn (one e) = subst (λ (p : ℕ). at + 8 + size_at f at ≤ p + 8 + size_at f p) e (omega arith)
      turn (up k l) = omega (arith, after_is f at)
      turn (down k l) = absurd (clash (is_last f (data_at f)) last l)

  -- nothing behind the part is looked at
  looked-before : (p : ℕ) → Looked f p → p < (found f).start + (found f).length
  looked-before p l = turn l (accepted-start f ok) (format-before f ok) (places f (format_at f) (format-is f (no4 f ok)).within)
    where
      turn : Looked f p → (found f).start ≡ data_at f + 8 → format_at f + 24 ≤ data_at f → (12 ≤ format_at f) × (format_at f < length f)
          → p < (found f).start + (found f).length
      turn (riff k) s b w = omega arith
      turn (wave k u) s b w = omega arith
      turn (head at i k u) s b w = omega (arith, before at i)
      turn (format n k u) s b w = omega arith
      turn (width n k u) s b w = omega arith

-- ---- another file, in which the part has room, with the same bytes wherever the first is looked at
module _ (f g : List ℕ) (ok : answer_of f ≡ 0) (fits : (found f).start + (found f).length ≤ length g) (short : length g ≤ 65536)
    (h : (p : ℕ) → Looked f p → byte f p ≡ byte g p) where
  heads : (at : ℕ) → In at (chunks f) → SameHead f g at
  unfolding whole
  heads at i =
      same_head f g at (λ s. all_whole f (no3 f ok) at i ∙ sym (le-leb (at + 8 + size_at g at) (length g) (omega (arith, before f ok at i))))
      (λ j l. h (at + j) (head at i (omega arith) (omega arith)))

  -- the walk meets the `data`, and ends there
  same-chunks : chunks f ≡ chunks g
  same-chunks =
      along-chunks (λ at l. ((p : ℕ) → In p l → SameHead f g p × (p < length g)) → In (data_at f) l → l ≡ chunks_from g at) f
      (λ at k q i. absurd i)
      (λ at k l q i. sym (chunks-more g at (q at (inl refl)).1 ∙ rw (sym (q at (inl refl)).0.last ∙ l)))
      (λ at rest k l r q i.
      more f g at rest (q at (inl refl)).1 l (q at (inl refl)).0
      (r (λ p j. q p (inr j))
      (⊎_elim (λ (e : data_at f ≡ at). absurd (clash (is_last f (data_at f)) (last f ok) (subst (λ (p : ℕ). is_last f p ≡ false) (sym e) l))) (λ (j : In (data_at f) rest). j) i)))
      (λ p i. (heads p i, omega (arith, before f ok p i)))
      (data_is f (no6 f ok)).0

  -- so the same is found
  longer-found : found f ≡ found g
  unfolding too_long
  longer-found =
      walked-alike f g (le-ltb 65536 (length f) (short-file f ok) ∙ sym (le-ltb 65536 (length g) short)) h heads same-chunks

-- ---- by the bytes up to the end of the part
module _ (f g : List ℕ) (ok : answer_of f ≡ 0) (h : take ((found f).start + (found f).length) f ≡ take ((found f).start + (found f).length) g)
    (short : length g ≤ 65536) where
  abbrev end : ℕ
  end = (found f).start + (found f).length

  fits : end ≤ length g
  fits = omega (arith, length-take-le end f (found_inside f), ap length h, length-take end g, min-le_right end (length g))

  same_byte : (p : ℕ) → Looked f p → byte f p ≡ byte g p
  same_byte p l =
      let k = looked-before f ok p l in sym (get_or-take end f p 0 k) ∙ ap (λ (t : List ℕ). get_or t p 0) h ∙ get_or-take end g p 0 k

  -- the same is found, and the part has the same bytes
  pub behind-any : (found g ≡ found f) × (part_of g ≡ part_of f)
  unfolding part
  behind-any =
      let e = longer-found f g ok fits short same_byte in
      (sym e, rw (← e) (drop-take (found f).start (found f).length g ∙ ap (drop (found f).start) (sym h) ∙ sym (drop-take (found f).start (found f).length f)))
