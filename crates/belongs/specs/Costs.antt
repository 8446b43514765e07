-- The numbers by which living and dead paths are told apart. Assumes nothing.
use Rattle.std.specs.Prelude.{ℕ, zero, suc, ◌+◌, Bool, true, false}
use Rattle.fixed.specs.Iter.{either}

-- the costs of one sample are from -1,044,180 to 1,045,828: by so much they differ at most
abbrev pub range : ℕ
range = 2090008

-- the least penalty with which the argument goes through: more than 31 such ranges
abbrev pub least_penalty : ℕ
least_penalty = 64790249

-- the penalty that there is, 0x7fffffff >> 4
abbrev pub fine : ℕ
fine = 134217727

-- a penalty of F, where there is one
abbrev pub extra : ℕ → Bool → ℕ
extra F true = F
extra F false = 0

-- how many of n are not
unfoldable pub out_of : (ℕ → Bool) → ℕ → ℕ
out_of a zero = 0
out_of a (suc n) = out_of a n + either (a n) 0 1
