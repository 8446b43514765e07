-- What is shown of the part of an accepted file. Assumes nothing.
use Rattle.std.specs.Prelude.{ℕ, ◌+◌, ◌%◌, ◌≤◌, ◌≡◌, true, List, length}
use Rattle.wav_file.specs.Bytes.{word16, word32}
use Rattle.wav_file.specs.Riff.{size_at, is_format, is_data}
use Rattle.wav_file.specs.Find.{Outcome, rate_allowed, part}
use Rattle.wav_file.specs.Walked.{Walked}

-- the part lies in the file and is the content of the chunk at the place `at`, which is the one walked chunk `data`; it has an even length
pub record IsData (file : List ℕ) (r : Outcome) : Type 0 where
  pub at : ℕ
  pub walked : Walked file at
  pub name : is_data file at ≡ true
  pub only : (p : ℕ) → Walked file p → is_data file p ≡ true → p ≡ at
  pub place : r.start ≡ at + 8
  pub size : r.length ≡ size_at file at
  pub even : r.length % 2 ≡ 0
  pub inside : r.start + r.length ≤ length file
  pub bytes : length (part file r.start r.length) ≡ r.length

-- the first walked chunk `fmt ` is the one at the place `at`; it has 16 bytes or more, which say PCM, one channel, 16 bits and the rate
pub record IsFormat (file : List ℕ) (r : Outcome) : Type 0 where
  pub at : ℕ
  pub walked : Walked file at
  pub name : is_format file at ≡ true
  pub earliest : (p : ℕ) → Walked file p → is_format file p ≡ true → at ≤ p
  pub size : 16 ≤ size_at file at
  pub coding : word16 file (at + 8) ≡ 1
  pub channels : word16 file (at + 10) ≡ 1
  pub width : word16 file (at + 22) ≡ 16
  pub rate : r.rate ≡ word32 file (at + 12)
  pub allowed : rate_allowed r.rate ≡ true
