-- `shifts::range::abs32` meets its contract. Assumes nothing.
use Prim.Native.Nat.{zero, suc, ◌^◌, ◌<◌}
use native.Mathlib.Omega.{arith}
use mathlib.Core.Path.{◌≡◌, refl, sym, ◌∙◌}
use lib.Dec.{lit<}
use lib.IntN.{ℤ, pos, negsuc, nat_abs}
use borrow.Author.Tests.{lt-ltb}
use mir.Syntax.{w32}
use mir.Val.{SFits, to_z}
use mir.Facts.{sfits_lit}
use Rattle.fixed.specs.Range.{abs32}
use Rattle.fixed.specs.Wrap.{wrap32}
use Rattle.fixed.proofs.Fit.{read, got32}
use Rattle.fixed.proofs.Wraps.{wrap32-id, to_z-wraps}
use Rattle.shifts.proofs.range.abs32.Goals as goal

-- the size, as a word: that of the least number has the highest bit set
size : (z : ℤ) → SFits w32 z → to_z w32 (nat_abs z) ≡ abs32 z
unfolding abs32 wrap32
size (pos zero) f = sym (wrap32-id (sfits_lit tt))
size (pos (suc n)) f = rw (lt-ltb 0 (suc n) (omega arith)) (read f)
size (negsuc n) f = let h : n < 2 ^ 31 = f.sfits in to_z-wraps w32 (2 ^ 31) (suc n) refl refl (lit< tt) (omega arith)

pub returns : goal.returns
returns c =
    let f = c.ranges.x in
    got32 c.wrapping_abs.result c.wrapping_abs.type_inv ∙ rw (read f) at c.wrapping_abs.ensures ∙ size c.args.x f
