-- When a setting, a gain or a lag is refused: the tables of docs/RULES.md, "What a call is given" and "Which number comes back", but the rows'
-- lengths. Every number is a whole number of any size and sign; a row's words are a list. What docs/RULES.md calls L and n are `l` and `n` here.
-- Assumes nothing.
use Rattle.std.specs.Prelude.{ℕ, ◌-◌, ◌%◌, Bool, false, not, ◌||◌, List, get_or, length, ℤ, pos, ◌*ℤ◌, eqb}
use Rattle.std.specs.Int.Signed.{lt_z}
use Rattle.fixed.specs.Iter.{iter, either}
use Rattle.limits.specs.Count.{nat_z, same_z}

-- ---- What is allowed
-- z is not one of lo .. hi
unfoldable pub outside : ℤ → ℤ → ℤ → Bool
outside lo hi z = lt_z z lo || lt_z hi z

-- L: the only definition that names the lengths
unfoldable pub length_allowed : ℤ → Bool
length_allowed l = same_z l (pos 40) || same_z l (pos 60) || same_z l (pos 80)

-- n
unfoldable pub count_allowed : ℤ → Bool
count_allowed n = same_z n (pos 2) || same_z n (pos 4)

-- the one prediction order that goes with L: 16 for 80, 10 for the others
unfoldable pub order_for : ℤ → ℤ
order_for l = either (same_z l (pos 80)) (pos 16) (pos 10)

-- z, a number that is not negative, is odd
unfoldable pub odd_z : ℤ → Bool
odd_z z = eqb (nat_z z % 2) 1

-- p holds of a number below m
abbrev pub some : (ℕ → Bool) → ℕ → Bool
some p m = iter (λ k found. found || p k) m false

-- ---- Numbers 1 to 4: the settings
-- 1: L or n not allowed
unfoldable pub lengths_refused : ℤ → ℤ → Bool
lengths_refused l n = not (length_allowed l) || not (count_allowed n)

-- 2: the prediction order is not the one for L, or the shaping order is not even, 2 to 24
unfoldable pub orders_refused : ℤ → ℤ → ℤ → Bool
orders_refused l order shaping = not (same_z order (order_for l)) || outside (pos 2) (pos 24) shaping || odd_z shaping

-- 3: the path count is not 1 to 4
unfoldable pub paths_refused : ℤ → Bool
paths_refused paths = outside (pos 1) (pos 4) paths

-- 4: signal type, offset type, interpolation or seed out of range
unfoldable pub kinds_refused : ℤ → ℤ → ℤ → ℤ → Bool
kinds_refused kind offset interp seed =
    outside (pos 0) (pos 2) kind || outside (pos 0) (pos 1) offset || outside (pos 0) (pos 4) interp || outside (pos 0) (pos 3) seed

-- ---- Number 6: a gain, or prev_gain_Q16, below 1
-- a gain below 1
unfoldable pub gain_refused : ℤ → Bool
gain_refused gain = lt_z gain (pos 1)

-- one of the row
unfoldable pub some_gain : List ℤ → Bool
some_gain gains = some (λ k. gain_refused (get_or gains k (pos 0))) (length gains)

-- prev_gain_Q16, or one of the row
unfoldable pub gains_refused : ℤ → List ℤ → Bool
gains_refused prev_gain_Q16 gains = gain_refused prev_gain_Q16 || some_gain gains

-- ---- Number 7: a lag not allowed
-- a lag that is not good: below 2L/5 or above 18L/5, each side times 5
unfoldable pub lag_refused : ℤ → ℤ → Bool
lag_refused l lag = outside (pos 2 *ℤ l) (pos 18 *ℤ l) (pos 5 *ℤ lag)

-- in a frame that is not voiced: a lag that is neither 0 nor good
unfoldable pub quiet_lag_refused : ℤ → ℤ → Bool
quiet_lag_refused l lag = either (same_z lag (pos 0)) false (lag_refused l lag)

-- one of the row is not good
unfoldable pub some_lag : ℤ → List ℤ → Bool
some_lag l lags = some (λ k. lag_refused l (get_or lags k (pos 0))) (length lags)

-- the last lag
unfoldable pub last_of : List ℤ → ℤ
last_of lags = get_or lags (length lags - 1) (pos 0)

-- voiced, which is type 2: all lags are looked at; otherwise lagPrev and the last
unfoldable pub lags_refused : ℤ → ℤ → ℤ → List ℤ → Bool
lags_refused l kind lagPrev lags =
    either (same_z kind (pos 2)) (some_lag l lags) (quiet_lag_refused l lagPrev || quiet_lag_refused l (last_of lags))
