-- A signed number by its sign and its size. Assumes nothing.
use mathlib.Core.Path.{◌≡◌, refl, ap}
use mathlib.Core.Bool.{true, false}
use mathlib.Core.List.{◌∷◌}
use native.Mathlib.Omega.{arith}
use lib.IntN.{ℤ, pos, negsuc, nat_abs, ◌-ℤ◌}
use lib.Signed.{lt_z}
use mir.Syntax.{w32, w64}
use mir.Val.{SFits, to_z, of_z}
use Rattle.fixed.proofs.Fit.{read, fit32-64}
use Rattle.fixed.proofs.Lin.{lt-true, lt-false}
use Rattle.pages.specs.Decimal.{decimal, digits}

-- a 32-bit number in 64 bits
pub wide : (z : ℤ) → SFits w32 z → to_z w64 (of_z w64 (to_z w32 (of_z w32 z))) ≡ z
wide z f = rw (read f) (read (fit32-64 f))

-- the size of a number below 0, and of any other
pub less : (z : ℤ) → lt_z z (pos 0) ≡ true → pos 0 -ℤ z ≡ pos (nat_abs z)
less (pos n) e = absurd (omega (arith, lt-true (pos n) (pos 0) e))
less (negsuc n) e = ap pos (omega arith)

pub not-less : (z : ℤ) → lt_z z (pos 0) ≡ false → z ≡ pos (nat_abs z)
not-less (pos n) e = refl
not-less (negsuc n) e = absurd (omega (arith, lt-false (negsuc n) (pos 0) e))

pub decimal-minus : (z : ℤ) → lt_z z (pos 0) ≡ true → 45 ∷ digits (nat_abs z) ≡ decimal z
unfolding decimal
decimal-minus (pos n) e = absurd (omega (arith, lt-true (pos n) (pos 0) e))
decimal-minus (negsuc n) e = refl

pub decimal-plain : (z : ℤ) → lt_z z (pos 0) ≡ false → digits (nat_abs z) ≡ decimal z
unfolding decimal
decimal-plain (pos n) e = refl
decimal-plain (negsuc n) e = absurd (omega (arith, lt-false (negsuc n) (pos 0) e))
