-- What the walk over a file hands on, and what is answered once it is over. Assumes nothing.
use Rattle.std.specs.Prelude.{ℕ, zero, suc, List, Option, Some, None, Result, Ok, Err}
use Rattle.fixed.specs.Iter.{either}
use Rattle.wav_file.specs.Riff.{is_format}
use Rattle.wav_file.specs.Find.{format_at, data_at, runs_past, no_format, other_format, no_data, odd_data}
use Rattle.wav_file.specs.declared.chunks.Marks.{Marks}
use Rattle.wav_file.specs.declared.refusal.Refusal.{Refusal}
use Rattle.wav_file.specs.declared.refusal.Refusal.TheVariants.{RunsPast, NoFormat, OtherFormat, NoData, OddData}

-- the place of a chunk, where 0 stands for none: the first chunk is at place 12
abbrev pub place : ℕ → Option ℕ
place zero = None
place (suc at) = Some (suc at)

-- that a chunk runs past the end; or, where none does, the places of the first `fmt ` and the first `data`
unfoldable pub marks_of : List ℕ → Result Marks Refusal
marks_of file = either (runs_past file) (Err RunsPast) (Ok (record { format = place (format_at file); body = place (data_at file) }))

-- the first `fmt ` of a walk that has come to the chunk at `at`, when it was `format` before
unfoldable pub format_with : List ℕ → ℕ → Option ℕ → Option ℕ
format_with file at None = either (is_format file at) (Some at) None
format_with file at (Some format) = Some format

-- 4 or 5 by the first `fmt `, else its place
unfoldable pub format_answer : List ℕ → Result ℕ Refusal
format_answer file = either (no_format file) (Err NoFormat) (either (other_format file) (Err OtherFormat) (Ok (format_at file)))

-- 6 or 7 by the first `data`, else its place
unfoldable pub data_answer : List ℕ → Result ℕ Refusal
data_answer file = either (no_data file) (Err NoData) (either (odd_data file) (Err OddData) (Ok (data_at file)))
