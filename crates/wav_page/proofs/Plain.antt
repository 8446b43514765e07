-- What is printed for a plain file: its rate and its samples. Assumes nothing.
use Prim.Native.Nat.{ℕ, ◌+◌, ◌*◌, ◌/◌, ◌<◌, ◌≤◌}
use native.Mathlib.Omega.{arith}
use mathlib.Core.Path.{◌≡◌}
use mathlib.Core.Bool.{true}
use mathlib.Core.List.{List}
use lib.ListN.{length, get_or}
use lib.IntN.{ℤ, pos}
use mir.Syntax.{w16}
use mir.Val.{SFits}
use Rattle.wav_file.specs.Find.{rate_allowed}
use Rattle.wav_file.specs.Plain.{wav_of}
use Rattle.wav_file.proofs.Plain.{read_back, part-back, samples-back}
use Rattle.wav_page.specs.Text.{sound_text, found_text, note_of, wav_text}

half : (n : ℕ) → 2 * n / 2 ≡ n
half n = omega arith

-- every row of samples that fits a file, at every rate that is allowed
pub plain-text : (rate : ℕ) (zs : List ℤ) → rate_allowed rate ≡ true → 44 + 2 * length zs ≤ 65536
    → ((i : ℕ) → i < length zs → SFits w16 (get_or zs i (pos 0)))
    → wav_text (wav_of rate zs) ≡ sound_text rate zs
unfolding wav_text found_text note_of
plain-text rate zs good fits h = rw (read_back rate zs good fits, part-back rate zs good fits, half (length zs), samples-back zs h)
