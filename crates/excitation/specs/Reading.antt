-- What comes of reading a frame's excitation, for every seed, type and row: an answer, and the row as it is left. The values are those of RFC
-- 6716, 4.2.7.8.6, as the crate `rfc6716` writes them down. Assumes nothing.
use Rattle.std.specs.Prelude.{List, length, ℤ, Ok, Err}
use Rattle.limits.specs.Count.{nat_z}
use Rattle.rfc6716.specs.Excitation.{offset_Q23, excitation}
use Rattle.excitation.specs.Code.{Answer, Accepted}
use Rattle.excitation.specs.Refused.{answer_of}

-- what the reader leaves
pub record Heard : Type 0 where
  pub answer : Answer
  pub row : List ℤ

-- the two together
abbrev pub heard : Answer → List ℤ → Heard
heard a row = record { answer = a; row = row }

-- the RFC's row for the pulses: one value e_Q23 for each
unfoldable pub heard_row : ℤ → ℤ → ℤ → List ℤ → List ℤ
heard_row seed signalType offset_type pulses = (excitation (offset_Q23 (nat_z signalType) (nat_z offset_type)) (nat_z seed) pulses).e_Q23

-- by the answer: that row, or the lent one as it was
unfoldable pub heard_by : Answer → List ℤ → List ℤ → Heard
heard_by (Ok u) values row = heard Accepted values
heard_by (Err why) values row = heard (Err why) row

-- the reader, whole
unfoldable pub reading : ℤ → ℤ → ℤ → List ℤ → List ℤ → Heard
reading seed signalType offset_type pulses row =
    heard_by (answer_of seed signalType offset_type (length pulses) (length row)) (heard_row seed signalType offset_type pulses) row
