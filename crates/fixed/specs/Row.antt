-- A row of words. Assumes nothing.
use Rattle.std.specs.Prelude.{ℕ, List, get_or, ℤ, pos}

-- word i of a row
abbrev pub word : List ℤ → ℕ → ℤ
word l i = get_or l i (pos 0)
