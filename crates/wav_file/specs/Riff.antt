-- The chunks of a RIFF file. A chunk is known by the place of its head: four bytes of name, four bytes of length, low byte first, then as many
-- bytes of content, then a pad byte if the length is odd. The first chunk is at place 12.
-- Assumes nothing.
use Rattle.std.specs.Prelude.{ℕ, zero, suc, ◌+◌, ◌-◌, ◌%◌, Bool, not, ◌||◌, List, [], ◌∷◌, length, ltb, leb}
use Rattle.fixed.specs.Iter.{either}
use Rattle.wav_file.specs.Bytes.{word32, named}

-- the length that the chunk's head gives for its content
unfoldable pub size_at : List ℕ → ℕ → ℕ
size_at file at = word32 file (at + 4)

-- is it a chunk `fmt `, with the space?
unfoldable pub is_format : List ℕ → ℕ → Bool
is_format file at = named file at 102 109 116 32

-- is it a chunk `data`?
unfoldable pub is_data : List ℕ → ℕ → Bool
is_data file at = named file at 100 97 116 97

-- do head and content lie in the file? Where fewer than eight bytes are left for the head they don't, whatever those are
unfoldable pub whole : List ℕ → ℕ → Bool
whole file at = leb (at + 8 + size_at file at) (length file)

-- the place behind it, and behind its pad byte: the next chunk's
unfoldable pub after : List ℕ → ℕ → ℕ
after file at = at + 8 + size_at file at + size_at file at % 2

-- is it the last that is walked? The first `data` is, and so is one that runs past the end
unfoldable pub is_last : List ℕ → ℕ → Bool
is_last file at = not (whole file at) || is_data file at

-- the places of the chunks walked from a place on, at most n of them: up to and including the last, or to the end of the file. A pad byte
-- that is missing at the end puts the next place behind the end, which ends the walk as well
abbrev pub walk : ℕ → List ℕ → ℕ → List ℕ
walk zero file at = []
walk (suc n) file at = either (ltb at (length file)) (at ∷ either (is_last file at) [] (walk n file (after file at))) []

-- all of those: each step goes on by eight bytes at least, so there are no more of them than bytes left
unfoldable pub chunks_from : List ℕ → ℕ → List ℕ
chunks_from file at = walk (length file - at) file at

-- the chunks that are walked
abbrev pub chunks : List ℕ → List ℕ
chunks file = chunks_from file 12

-- the first of the places that passes the test, or 0, where no chunk is
abbrev pub first : (ℕ → Bool) → List ℕ → ℕ
first test [] = 0
first test (at ∷ rest) = either (test at) at (first test rest)
