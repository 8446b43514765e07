-- The text of the program `wav` for every input, byte for byte: docs/RULES.md, "Notes from WAV files". Assumes nothing.
use Rattle.std.specs.Prelude.{ℕ, ◌/◌, List, [], ◌∷◌, ◌++◌, length, ℤ, pos, eqb}
use Rattle.fixed.specs.Iter.{either}
use Rattle.sheet_text.specs.Text.{line_of, pulse_lines}
use Rattle.wav_file.specs.Find.{found, part_of}
use Rattle.wav_file.specs.Fill.{samples_of}

-- `wav ` as bytes
abbrev pub wav_word : List ℕ
wav_word = 119 ∷ 97 ∷ 118 ∷ 32 ∷ []

-- `rate ` as bytes
abbrev pub rate_word : List ℕ
rate_word = 114 ∷ 97 ∷ 116 ∷ 101 ∷ 32 ∷ []

-- `samples ` as bytes
abbrev pub samples_word : List ℕ
samples_word = 115 ∷ 97 ∷ 109 ∷ 112 ∷ 108 ∷ 101 ∷ 115 ∷ 32 ∷ []

-- an accepted file: the rate, the number of samples, and the samples, twenty to a line
unfoldable pub sound_text : ℕ → List ℤ → List ℕ
sound_text rate row = line_of rate_word (pos rate) ++ line_of samples_word (pos (length row)) ++ pulse_lines (length row) 0 row

-- what was found, by its answer: a refusal has its number alone
unfoldable pub found_text : ℕ → ℕ → List ℤ → List ℕ
found_text answer rate row = either (eqb answer 0) (sound_text rate row) (line_of wav_word (pos answer))

-- the samples of a file: each takes two bytes of its part. A refused file has none
unfoldable pub note_of : List ℕ → List ℤ
note_of file = samples_of (part_of file) ((found file).length / 2)

-- the program's text
unfoldable pub wav_text : List ℕ → List ℕ
wav_text file = found_text (found file).answer (found file).rate (note_of file)
