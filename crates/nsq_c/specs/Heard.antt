-- What comes of reading an excitation from C, for every number and row: a number, and the row as it is left. Assumes nothing.
use Rattle.std.specs.Prelude.{ℕ, List, ℤ}
use Rattle.excitation.specs.Code.{code_of}
use Rattle.excitation.specs.Reading.{Heard, reading}

-- what `nsq_excitation` leaves
pub record Numbered : Type 0 where
  pub number : ℕ
  pub row : List ℤ

-- the two together
abbrev pub numbered : ℕ → List ℤ → Numbered
numbered k row = record { number = k; row = row }

-- the reader's outcome, its answer as a number
abbrev pub by_number : Heard → Numbered
by_number h = numbered (code_of h.answer) h.row

-- the reader, whole
unfoldable pub heard_from : ℤ → ℤ → ℤ → List ℤ → List ℤ → Numbered
heard_from seed signalType offset_type pulses row = by_number (reading seed signalType offset_type pulses row)
