-- `shifts::shift::clz32` meets its contract. Assumes nothing.
use Prim.Native.Nat.{suc, ◌-◌, ◌^◌, ◌<◌}
use native.Mathlib.Omega.{arith}
use mathlib.Core.Path.{◌≡◌, refl, sym, ◌∙◌}
use lib.Count.{count_leading_zeros, leading_unique}
use lib.IntN.{ℤ, pos, negsuc}
use borrow.Author.Tests.{le-ltb}
use mir.Syntax.{w32}
use mir.Val.{SFits, of_z}
use Rattle.fixed.specs.Shift.{clz32}
use Rattle.fixed.proofs.Fit.{read}
use Rattle.shifts.proofs.shift.clz32.Goals as goal

-- a negative number has its highest bit set
of_bits : (z : ℤ) → SFits w32 z → count_leading_zeros 32 (of_z w32 z) ≡ clz32 z
unfolding clz32
of_bits (pos n) f = rw (le-ltb n 0 (omega arith)) refl
of_bits (negsuc n) f =
    let h : n < 2 ^ 31 = f.sfits in
    sym (leading_unique 32 (2 ^ 32 - suc n) 0 32 refl (omega arith) (omega arith))

pub returns : goal.returns
returns c = let f = c.ranges.x in rw (read f) at c.leading_zeros.ensures ∙ of_bits c.args.x f
