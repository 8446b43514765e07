-- Whole numbers as they are printed (docs/RULES.md, "The call sheet"): bytes of decimal digits. Assumes nothing.
use Rattle.std.specs.Prelude.{ℕ, zero, suc, ◌+◌, ◌/◌, ◌%◌, List, [], ◌∷◌, ◌++◌, ℤ, pos, negsuc, ltb}
use Rattle.fixed.specs.Iter.{either}

-- the decimal digits of n, at most f of them, the highest first
unfoldable pub digits_up_to : ℕ → ℕ → List ℕ
digits_up_to zero n = []
digits_up_to (suc f) n = either (ltb n 10) ((48 + n) ∷ []) (digits_up_to f (n / 10) ++ ((48 + n % 10) ∷ []))

-- the decimal digits of n: it has no more than n + 1 of them
unfoldable pub digits : ℕ → List ℕ
digits n = digits_up_to (suc n) n

-- a whole number: a minus (byte 45) before a negative one
unfoldable pub decimal : ℤ → List ℕ
decimal (pos n) = digits n
decimal (negsuc n) = 45 ∷ digits (suc n)
