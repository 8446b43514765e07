-- Which chunks of a file are walked, and which bytes are looked at, as statements. Assumes nothing.
use Rattle.std.specs.Prelude.{ℕ, ◌+◌, ◌%◌, ◌≤◌, ◌<◌, ◌≡◌, ◌⊎◌, true, false, List, [], ◌∷◌, length}
use Rattle.wav_file.specs.Riff.{size_at, is_data, whole, after, chunks}
use Rattle.wav_file.specs.Find.{format_at, data_at, no_format}

-- a chunk is walked: the first, at place 12, or the next behind a walked one that lies in the file and is no `data`; each only where the
-- file has a byte
pub data Walked (file : List ℕ) : ℕ → Type 0 where
  start : 12 < length file → Walked file 12
  next : {at : ℕ} → Walked file at → whole file at ≡ true → is_data file at ≡ false → after file at < length file → Walked file (after file at)

-- p is one of the places
abbrev pub In : ℕ → List ℕ → Type 0
In p [] = ⊥
In p (at ∷ rest) = (p ≡ at) ⊎ In p rest

-- place p is looked at: `RIFF` and `WAVE`, the heads of the walked chunks, and of the first `fmt `, if it has 16 bytes or more, coding, channels and rate,
-- which are its first eight, and the width, which is at 14
pub data Looked (file : List ℕ) (p : ℕ) : Type 0 where
  riff : p < 4 → Looked file p
  wave : 8 ≤ p → p < 12 → Looked file p
  head : (at : ℕ) → In at (chunks file) → at ≤ p → p < at + 8 → Looked file p
  format : no_format file ≡ false → format_at file + 8 ≤ p → p < format_at file + 16 → Looked file p
  width : no_format file ≡ false → format_at file + 22 ≤ p → p < format_at file + 24 → Looked file p

-- place p is passed over: RIFF's size, the pad byte of a walked chunk, the content of a walked chunk other than the first `fmt ` (an unknown one, a
-- later `fmt `, the `data`), of the first `fmt ` the bytes a second and the bytes a sample, and what it has beyond 16 bytes, or any byte behind the
-- head of the first `data`
pub data Skipped (file : List ℕ) (p : ℕ) : Type 0 where
  size : 4 ≤ p → p < 8 → Skipped file p
  pad : (at : ℕ) → In at (chunks file) → p ≡ at + 8 + size_at file at → size_at file at % 2 ≡ 1 → Skipped file p
  content : (at : ℕ) → In at (chunks file) → (at ≡ format_at file → ⊥) → at + 8 ≤ p → p < at + 8 + size_at file at → Skipped file p
  unused : no_format file ≡ false → format_at file + 16 ≤ p → p < format_at file + 22 → Skipped file p
  beyond : In (format_at file) (chunks file) → format_at file + 24 ≤ p → p < format_at file + 8 + size_at file (format_at file) → Skipped file p
  behind : In (data_at file) (chunks file) → data_at file + 8 ≤ p → Skipped file p
