-- When the reader refuses, and with which number. Numbers are whole numbers of any size and sign, as they were given: seed 256 is not seed 0.
-- Assumes nothing.
use Rattle.std.specs.Prelude.{ℕ, Bool, false, not, ◌||◌, List, [], ◌∷◌, get_or, ℤ, pos, eqb, ltb, Err}
use Rattle.fixed.specs.Iter.{either}
use Rattle.limits.specs.Tests.{outside}
use Rattle.excitation.specs.declared.answer.Refusal.TheVariants.{Seeds, Kinds, Rows}
use Rattle.excitation.specs.Code.{Answer, Accepted}

-- 1: the seed is not one of 0 to 3
unfoldable pub seed_refused : ℤ → Bool
seed_refused seed = outside (pos 0) (pos 3) seed

-- 2: the signal type is not one of 0 to 2, or the offset type is neither 0 nor 1
unfoldable pub kinds_refused : ℤ → ℤ → Bool
kinds_refused signalType offset_type = outside (pos 0) (pos 2) signalType || outside (pos 0) (pos 1) offset_type

-- 3: the two rows differ in length, or there are more than 320 pulses; by their lengths
unfoldable pub rows_refused : ℕ → ℕ → Bool
rows_refused pulses row = not (eqb pulses row) || ltb 320 pulses

-- place k says whether number k applies; place 0 is no refusal
unfoldable pub table : ℤ → ℤ → ℤ → ℕ → ℕ → List Bool
table seed signalType offset_type pulses row =
    false ∷ seed_refused seed ∷ kinds_refused signalType offset_type ∷ rows_refused pulses row ∷ []

-- does number k apply?
abbrev pub applies : ℤ → ℤ → ℤ → ℕ → ℕ → ℕ → Bool
applies seed signalType offset_type pulses row k = get_or (table seed signalType offset_type pulses row) k false

-- the answer with the lowest number that applies, else accepted
unfoldable pub answer_of : ℤ → ℤ → ℤ → ℕ → ℕ → Answer
answer_of seed signalType offset_type pulses row =
    let is = applies seed signalType offset_type pulses row in either (is 1) (Err Seeds) (either (is 2) (Err Kinds) (either (is 3) (Err Rows) Accepted))
