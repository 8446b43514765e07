-- The samples of a part of a WAV file (docs/RULES.md, "Notes from WAV files", the second step). Assumes nothing.
use Rattle.std.specs.Prelude.{ℕ, ◌*◌, Bool, not, List, [], ◌∷◌, ◌++◌, length, ℤ, pos, eqb}
use Rattle.fixed.specs.Iter.{either, iter}
use Rattle.fixed.specs.Wrap.{wrap16}
use Rattle.wav_file.specs.Bytes.{word16}

-- sample i: two bytes, low byte first, with their sign
unfoldable pub sample_of : List ℕ → ℕ → ℤ
sample_of bytes i = wrap16 (pos (word16 bytes (2 * i)))

-- the first n samples
abbrev pub samples_of : List ℕ → ℕ → List ℤ
samples_of bytes n = iter (λ i row. row ++ (sample_of bytes i ∷ [])) n []

-- what the second step leaves: its answer, and the row
pub record Filled : Type 0 where
  pub answer : ℕ
  pub row : List ℤ

-- the two together
abbrev pub filled : ℕ → List ℤ → Filled
filled k row = record { answer = k; row = row }

-- 8: the part isn't twice as long as the row
unfoldable pub not_twice : List ℕ → List ℤ → Bool
not_twice bytes row = not (eqb (length bytes) (2 * length row))

-- the second step, whole: 8 and the row as it was, or 0 and as many samples as the row is long
unfoldable pub filling : List ℕ → List ℤ → Filled
filling bytes row = either (not_twice bytes row) (filled 8 row) (filled 0 (samples_of bytes (length row)))
