-- What the frame takes of a good call: where its lags, its history and its subframes lie. Assumes nothing.
use Prim.Native.Nat.{ℕ, ◌+◌, ◌*◌, ◌/◌, ◌≤◌, ◌<◌}
use native.Mathlib.Omega.{arith}
use native.Mathlib.Nat.{mul-le-mul_right}
use mathlib.Core.Path.{◌≡◌, ap}
use mathlib.Core.Logic.{inl, inr}
use lib.IntN.{ℤ}
use Rattle.limits.specs.Count.{nat_z}
use Rattle.refusal_rules.specs.Good.{GoodLength, GoodCount, GoodOrder, GoodLag, QuietLag}

-- the ends of the lags are whole numbers: 2L/5 is 8 times L/20, and 18L/5 is 72 times L/20
pub ends-whole : {l : ℤ} → GoodLength l → (2 * nat_z l ≡ 5 * (8 * (nat_z l / 20))) × (18 * nat_z l ≡ 5 * (72 * (nat_z l / 20)))
ends-whole {l} g = let h = g.whole in (omega arith, omega arith)

-- a good lag is 16 or more, so that a delay of lag - 3 is 13 or more
pub lag-above : {l lag : ℤ} → GoodLength l → GoodLag l lag → 16 ≤ nat_z lag
lag-above g h = let a = g.among.least in let b = h.least in omega arith

-- the filtered history starts above place 0
pub start-above : {l order lag : ℤ} → GoodOrder l order → GoodLag l lag → nat_z lag + nat_z order + 2 < 4 * nat_z l
start-above o h = let a = o.room in let b = h.most in omega arith

-- a lag that is not 0 is good
pub quiet-above : {l lag : ℤ} → QuietLag l lag → 0 < nat_z lag → GoodLag l lag
quiet-above (inl e) h = absurd (omega (arith, ap nat_z e))
quiet-above (inr g) h = g

-- subframe k lies in the frame
pub subframe-within : {k n : ℕ} (l : ℕ) → k < n → k * l + l ≤ n * l
subframe-within {k} {n} l h = omega (arith, mul-le-mul_right l (let u : k + 1 ≤ n = omega arith in u))

-- a frame is at most as long as its history, and both are at most 320 words
pub frame-within : {l n : ℤ} → GoodLength l → GoodCount n → (nat_z n * nat_z l ≤ 4 * nat_z l) × (4 * nat_z l ≤ 320)
frame-within {l} {n} g h = (mul-le-mul_right (nat_z l) h.among.most, (let a = g.among.most in omega arith))
