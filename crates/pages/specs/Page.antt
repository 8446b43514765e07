-- A buffer that bytes are appended to, from its start on.
-- Assumes nothing.
use Rattle.std.specs.Prelude.{ℕ, ◌+◌, List, [], ◌∷◌, length, set, ltb}
use Rattle.fixed.specs.Iter.{either}

-- the buffer's bytes, and how many of them are in use
pub record Page : Type 0 where
  pub used : ℕ
  pub bytes : List ℕ

-- a page by its parts
abbrev pub page : ℕ → List ℕ → Page
page n s = record { used = n; bytes = s }

-- one byte more; where the buffer is full, the byte is left out
unfoldable pub put : ℕ → Page → Page
put b p = either (ltb p.used (length p.bytes)) (page (p.used + 1) (set p.bytes p.used b)) p

-- these bytes one after the other
unfoldable pub puts : List ℕ → Page → Page
puts [] p = p
puts (b ∷ s) p = puts s (put b p)
