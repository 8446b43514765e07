-- The parts of the text, as the code puts them together. Assumes nothing.
use mathlib.Core.Path.{◌≡◌, refl, sym, ap, ◌∙◌}
use mathlib.Core.List.{List, ◌++◌}
use Prim.Native.Nat.{ℕ, ◌+◌, ◌-◌, ◌*◌, ◌/◌, ◌%◌, ◌≤◌}
use native.Mathlib.Omega.{arith}
use native.Mathlib.Nat.{add-sub_cancel_left}
use lib.ListN.{length, take, drop}
use lib.IntN.{ℤ, pos}
use borrow.Author.Tests.{ne_eqb}
use Rattle.sheet_text.specs.Text.{line_of, pulse_lines}
use Rattle.wav_file.specs.Find.{Outcome, found, part, part_of}
use Rattle.wav_file.specs.Fill.{Filled, samples_of, filled, filling}
use Rattle.wav_file.specs.Numbers.{answer_number}
use Rattle.std.specs.Prelude.{Result, Ok, Err, IsOk}
use Rattle.wav_file.proofs.Exactly.{found-answer}
use Rattle.wav_file.proofs.Part.{part-is-data, part_length, found-most}
use Rattle.wav_file.proofs.Rows.{alike}
use Rattle.wav_page.specs.Text.{wav_word, rate_word, samples_word, sound_text, found_text, note_of, wav_text}

-- ---- an accepted file's text: two lines and the samples, where k is their number
pub sound-as : (rate k : ℕ) (row : List ℤ) → k ≡ length row
    → (line_of rate_word (pos rate) ++ line_of samples_word (pos k)) ++ pulse_lines (length row) 0 row ≡ sound_text rate row
unfolding sound_text
sound-as rate k row e = rw e

-- where the part is twice as long as the row, the second step doesn't refuse
pub is-filled : {T E : Type 0} (r : Result T E) (bytes : List ℕ) (row left : List ℤ) → length bytes ≡ 2 * length row → filled (answer_number r) left ≡ filling bytes row → IsOk r
is-filled (Ok x) bytes row left h e = refl
is-filled (Err k) bytes row left h e = absurd (omega (arith, ap (λ (o : Filled). o.answer) (e ∙ sym (alike bytes row h))))

-- the row that the second step leaves, where the part is twice as long
pub row-filled : (bytes : List ℕ) (row left : List ℤ) (k : ℕ) → length bytes ≡ 2 * length row → filled k left ≡ filling bytes row
    → left ≡ samples_of bytes (length bytes / 2)
row-filled bytes row left k h e =
    let half : length bytes / 2 ≡ length row = omega arith in
    rw half (ap (λ (o : Filled). o.row) (e ∙ sym (alike bytes row h)))

-- ---- what was found, as the code holds it
module _ (f : List ℕ) (r : Outcome) (e : r ≡ found f) where
  -- the part that the code cuts out
  pub cut-part : take (r.start + r.length - r.start) (drop r.start f) ≡ part_of f
  unfolding part
  cut-part = rw (add-sub_cancel_left r.start r.length, e)

  -- a refusal, where k is its number
  pub refused-text : (k : ℕ) → k ≡ r.answer → (r.answer ≡ 0 → ⊥) → line_of wav_word (pos k) ≡ wav_text f
  unfolding wav_text found_text
  refused-text k n h = rw (n, ← e, ne_eqb r.answer 0 h)

  -- an accepted file: its part has an even length, and no more than 65492 bytes
  module _ (ok : r.answer ≡ 0) where
    accepted : (found f).answer ≡ 0
    accepted = sym (ap (λ (x : Outcome). x.answer) e) ∙ ok

    pub part-even : length (part_of f) % 2 ≡ 0
    part-even = rw (part_length f) (part-is-data f (sym (found-answer f) ∙ accepted)).even

    pub part-short : length (part_of f) ≤ 65492
    part-short = rw (part_length f) (found-most f)

    pub accepted-text : sound_text r.rate (samples_of (part_of f) (length (part_of f) / 2)) ≡ wav_text f
    unfolding wav_text found_text note_of
    accepted-text = rw (part_length f, accepted, e)
