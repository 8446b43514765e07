-- Signed numbers of 64 bits. Assumes nothing.
use mathlib.Core.Path.{◌≡◌}
use Prim.Native.Nat.{ℕ, ◌<◌, ◌^◌}
use native.Mathlib.Omega.{arith}
use mathlib.Core.Bool.{Bool}
use lib.IntN.{ℤ, pos, neg_ℤ, ◌-ℤ◌}
use lib.Signed.{lt_z}
use mir.Syntax.{w64}
use mir.Val.{SFits, to_z, of_z}
use mir.Facts.{to_z-of_z}
use Rattle.fixed.proofs.Lin.{eq_of, neg-lin, sub-lin-Z, sfits-of-lin}

-- what a test says of the two numbers
pub test64 : {a b : ℤ} {t : Bool} → SFits w64 a → SFits w64 b → lt_z (to_z w64 (of_z w64 a)) (to_z w64 (of_z w64 b)) ≡ t → lt_z a b ≡ t
test64 f g e = cc (to_z-of_z f, to_z-of_z g)

-- a value of 10 digits fits, and its negation
pub small-fits : (n : ℕ) → n < 10 ^ 10 → SFits w64 (pos n)
small-fits n h = record { sfits = omega arith }

pub small-read : (n : ℕ) → n < 10 ^ 10 → to_z w64 n ≡ pos n
small-read n h = to_z-of_z (small-fits n h)

zero-less : (n : ℕ) → pos 0 -ℤ pos n ≡ neg_ℤ (pos n)
zero-less n = let e = sub-lin-Z (pos 0) (pos n) in let f = neg-lin (pos n) in eq_of (pos 0 -ℤ pos n) (neg_ℤ (pos n)) (omega arith)

neg-fits : (n : ℕ) → n < 10 ^ 10 → SFits w64 (neg_ℤ (pos n))
neg-fits n h = let f = neg-lin (pos n) in sfits-of-lin w64 (neg_ℤ (pos n)) (omega arith) (omega arith)

pub minus-fits : (n : ℕ) → n < 10 ^ 10 → SFits w64 (pos 0 -ℤ to_z w64 n)
minus-fits n h = rw (small-read n h, zero-less n) (neg-fits n h)

pub minus-read : (n : ℕ) → n < 10 ^ 10 → to_z w64 (of_z w64 (pos 0 -ℤ to_z w64 n)) ≡ neg_ℤ (pos n)
minus-read n h = rw (small-read n h, zero-less n) (to_z-of_z (neg-fits n h))
