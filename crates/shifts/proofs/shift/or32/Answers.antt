-- `shifts::shift::or32` meets its contract. Assumes nothing.
use mathlib.Core.Path.{◌≡◌, ◌∙◌, refl}
use Prim.Native.Nat.{◌^◌}
use native.Mathlib.Omega.{arith}
use lib.IntN.{ℤ, pos, negsuc}
use lib.Dec.{lit<}
use lib.Bits.{bit_or, or_lt}
use mir.Syntax.{w32}
use mir.Val.{SFits, of_z}
use mir.Facts.{Fits-of_z}
use Rattle.fixed.specs.Wrap.{mod_z, wrap32}
use Rattle.fixed.specs.Shift.{or32}
use Rattle.fixed.proofs.Wraps.{to_z-wraps}
use Rattle.shifts.proofs.shift.or32.Goals as goal

-- the bits of a word are the word modulo 2^32
word-bits : {z : ℤ} → SFits w32 z → of_z w32 z ≡ mod_z z (2 ^ 32)
word-bits {z = pos n} f = omega (arith, f.sfits)
word-bits {z = negsuc n} f = omega (arith, f.sfits)

pub returns : goal.returns
unfolding or32 wrap32
returns c =
    let f = c.ranges in
    to_z-wraps w32 (2 ^ 31) (bit_or (of_z w32 c.args.a) (of_z w32 c.args.b)) refl refl (lit< tt)
    (or_lt 32 (of_z w32 c.args.a) (of_z w32 c.args.b) (Fits-of_z f.a).fits (Fits-of_z f.b).fits)
    ∙ rw (word-bits f.a, word-bits f.b)
