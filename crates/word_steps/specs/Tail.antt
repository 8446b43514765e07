-- The rows that a frame leaves for the next one: the end of silk_NSQ_del_dec_c of NSQ_del_dec.rs. Assumes nothing.
use Rattle.std.specs.Prelude.{ℕ, ◌+◌, List, set, ℤ}
use Rattle.fixed.specs.Iter.{iter}
use Rattle.fixed.specs.Row.{word}

-- m words of a row move down by s
abbrev pub down_turn : ℕ → ℕ → List ℤ → List ℤ
down_turn s j l = set l j (word l (s + j))

-- each in its turn, from the first on
unfoldable pub moved_down : ℕ → ℕ → List ℤ → List ℤ
moved_down s m l = iter (down_turn s) m l

-- the first m words of a row become those of another from a on
abbrev pub words_turn : List ℤ → ℕ → ℕ → List ℤ → List ℤ
words_turn from a j l = set l j (word from (a + j))

-- each in its turn, from the first on
unfoldable pub words_from : List ℤ → ℕ → ℕ → List ℤ → List ℤ
words_from from a m l = iter (words_turn from a) m l
