-- Which part of a WAV file is its samples (docs/RULES.md, "Notes from WAV files", the first step). Each refusal is a condition on the whole
-- file, and the lowest that holds is given. Assumes nothing.
use Rattle.std.specs.Prelude.{ℕ, ◌+◌, ◌%◌, Bool, true, false, not, ◌&&◌, ◌||◌, List, [], ◌∷◌, length, get_or, take, drop, ltb, eqb}
use Rattle.fixed.specs.Iter.{either}
use Rattle.wav_file.specs.Bytes.{named, word16, word32}
use Rattle.wav_file.specs.Riff.{size_at, is_format, is_data, whole, chunks, first}

-- ---- the three chunks that matter, among those walked; 0 for none
-- one that runs past the end, with its content or its head
unfoldable pub past_at : List ℕ → ℕ
past_at file = first (λ at. not (whole file at)) (chunks file)

-- the first `fmt `
unfoldable pub format_at : List ℕ → ℕ
format_at file = first (is_format file) (chunks file)

-- the first `data`
unfoldable pub data_at : List ℕ → ℕ
data_at file = first (is_data file) (chunks file)

-- ---- the refusals
-- the only definition that names the rates
unfoldable pub rate_allowed : ℕ → Bool
rate_allowed rate = eqb rate 8000 || (eqb rate 12000 || eqb rate 16000)

-- the fields of a `fmt ` ask for something else than PCM (1), one channel, 16 bits and an allowed rate; nothing else in it is looked at
unfoldable pub other_sound : List ℕ → ℕ → Bool
other_sound file at =
    not
    (eqb (word16 file (at + 8)) 1
    && (eqb (word16 file (at + 10)) 1 && (rate_allowed (word32 file (at + 12)) && eqb (word16 file (at + 22)) 16)))

-- 1: more than 65,536 bytes
unfoldable pub too_long : List ℕ → Bool
too_long file = ltb 65536 (length file)

-- 2: not `RIFF` at 0 and `WAVE` at 8. The four bytes between, RIFF's size, are not looked at
unfoldable pub not_wave : List ℕ → Bool
not_wave file = not (named file 0 82 73 70 70 && named file 8 87 65 86 69)

-- 3: a walked chunk or its head runs past the end
unfoldable pub runs_past : List ℕ → Bool
runs_past file = not (eqb (past_at file) 0)

-- 4: no `fmt ` is walked, or the first is shorter than 16 bytes
unfoldable pub no_format : List ℕ → Bool
no_format file = either (eqb (format_at file) 0) true (ltb (size_at file (format_at file)) 16)

-- 5: the first `fmt ` has 16 bytes or more, and asks for another sound
unfoldable pub other_format : List ℕ → Bool
other_format file = either (no_format file) false (other_sound file (format_at file))

-- 6: no `data` is walked
unfoldable pub no_data : List ℕ → Bool
no_data file = eqb (data_at file) 0

-- 7: the first `data` has an odd length
unfoldable pub odd_data : List ℕ → Bool
odd_data file = either (no_data file) false (eqb (size_at file (data_at file) % 2) 1)

-- place k says whether number k applies; place 0 is no refusal
unfoldable pub table : List ℕ → List Bool
table file = false ∷ too_long file ∷ not_wave file ∷ runs_past file ∷ no_format file ∷ other_format file ∷ no_data file ∷ odd_data file ∷ []

-- does number k apply?
abbrev pub applies : List ℕ → ℕ → Bool
applies file k = get_or (table file) k false

-- the lowest number that applies, else 0
unfoldable pub answer_of : List ℕ → ℕ
answer_of file =
    let is = applies file in
    either (is 1) 1 (either (is 2) 2 (either (is 3) 3 (either (is 4) 4 (either (is 5) 5 (either (is 6) 6 (either (is 7) 7 0))))))

-- ---- what is handed back
-- in numbers: the answer, 0 or the number of a refusal; the place of the part in the file, its length in bytes, and the samples a second. All
-- three are 0 after a refusal
pub record Outcome : Type 0 where
  pub answer : ℕ
  pub start : ℕ
  pub length : ℕ
  pub rate : ℕ

-- the four together
abbrev pub found_by : ℕ → ℕ → ℕ → ℕ → Outcome
found_by answer start length rate = record { answer = answer; start = start; length = length; rate = rate }

-- a refusal: an empty part
abbrev pub refused : ℕ → Outcome
refused k = found_by k 0 0 0

-- accepted: the place and the length of the first `data`'s content, and the rate
unfoldable pub accepted : List ℕ → Outcome
accepted file = found_by 0 (data_at file + 8) (size_at file (data_at file)) (word32 file (format_at file + 12))

-- the first step, whole
unfoldable pub found : List ℕ → Outcome
found file = either (eqb (answer_of file) 0) (accepted file) (refused (answer_of file))

-- a part of a file: `length` bytes from `start` on
unfoldable pub part : List ℕ → ℕ → ℕ → List ℕ
part file start length = take length (drop start file)

-- the part that is found
abbrev pub part_of : List ℕ → List ℕ
part_of file = part file (found file).start (found file).length
