-- How long the text of a file can be: at most 229247 bytes, which a page of that size holds. Assumes nothing.
use mathlib.Core.Path.{◌≡◌, sym, ◌∙◌}
use mathlib.Core.List.{List, ◌++◌}
use Prim.Native.Nat.{ℕ, zero, suc, ◌*◌, ◌/◌, ◌≤◌, ◌<◌}
use native.Mathlib.Omega.{arith}
use lib.ListN.{length, length-append}
use lib.IntN.{ℤ, pos}
use lib.Dec.{eqb}
use borrow.Author.Tests.{eqb-true}
use Rattle.fixed.proofs.Iters.{either-all}
use Rattle.fixed.proofs.Lin.{sfits-lin}
use Rattle.fixed.proofs.Wraps.{wrap16-fits}
use Rattle.pages.specs.Page.{page, puts}
use Rattle.pages.proofs.Pages.{Whole, whole-page as on-page}
use Rattle.sheet_text.specs.Text.{line_of}
use Rattle.sheet_text.proofs.Short.{Small, AllSmall, all_more, line-count, line-one, lines-short}
use Rattle.wav_file.specs.Bytes.{word16}
use Rattle.wav_file.specs.Find.{answer_of, found, part_of}
use Rattle.wav_file.specs.Fill.{sample_of, samples_of}
use Rattle.wav_file.proofs.Exactly.{found-answer, answer-most}
use Rattle.wav_file.proofs.Part.{rate-most, format-is-first, found-most}
use Rattle.wav_file.proofs.Rows.{length-samples}
use Rattle.wav_page.specs.Text.{wav_word, rate_word, samples_word, sound_text, found_text, note_of, wav_text}

-- ---- the samples: each has 16 bits
sample-small : (bytes : List ℕ) (i : ℕ) → Small (sample_of bytes i)
unfolding sample_of
sample-small bytes i = omega (arith, sfits-lin (wrap16-fits (pos (word16 bytes (2 * i)))))

samples-small : (bytes : List ℕ) (n : ℕ) → AllSmall (samples_of bytes n)
samples-small bytes zero = tt
samples-small bytes (suc n) = all_more (samples_of bytes n) (sample_of bytes n) (samples-small bytes n) (sample-small bytes n)

-- ---- the text: 11 bytes for the rate's line, 14 for the number of samples, 7 for each sample with what follows it
sound-short : (rate : ℕ) (row : List ℤ) → rate < 100000 → AllSmall row → length row ≤ 32746 → length (sound_text rate row) ≤ 229247
unfolding sound_text
sound-short rate row r s h =
    rw (length-append (line_of rate_word (pos rate) ++ line_of samples_word (pos (length row))) _, length-append (line_of rate_word (pos rate)) _)
    (omega (arith, line-count rate_word rate r, line-count samples_word (length row) (omega arith), lines-short (length row) 0 row s))

note-short : (f : List ℕ) → length (note_of f) ≤ 32746
unfolding note_of
note-short f = rw (length-samples (part_of f) ((found f).length / 2)) (omega (arith, found-most f))

note-small : (f : List ℕ) → AllSmall (note_of f)
unfolding note_of
note-small f = samples-small (part_of f) ((found f).length / 2)

pub text-most : (s : List ℕ) → length (wav_text s) ≤ 229247
unfolding wav_text found_text
text-most s =
    either-all (λ (text : List ℕ). length text ≤ 229247) (eqb (found s).answer 0) _ _
    (λ e.
    let ok : answer_of s ≡ 0 = sym (found-answer s) ∙ eqb-true (found s).answer 0 e in
    sound-short (found s).rate (note_of s) (omega (arith, rate-most (found s).rate (format-is-first s ok).allowed)) (note-small s) (note-short s))
    (λ e. omega (arith, line-one wav_word (found s).answer (rw (found-answer s) (omega (arith, answer-most s)))))

-- so a page of that size holds it: of a count and a page of which the contract's equation is known, the first bytes, as many as the count says, are
-- the text, and the count is within the page
pub whole-page : (s t out bytes : List ℕ) (used : ℕ) → s ≡ t → length out ≡ 229247 → page used bytes ≡ puts (wav_text s) (page 0 out) → Whole (wav_text t) out bytes used
whole-page s t out bytes used e l p = on-page wav_text s t out bytes used e (omega (arith, text-most t)) p
