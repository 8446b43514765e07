-- Two readings of one step, proved equal. Assumes nothing.
use mathlib.Core.Path.{◌≡◌, ◌∙◌, ap}
use Prim.Native.Nat.{ℕ, suc, ◌*◌, ◌/◌, ◌^◌, ◌<◌}
use native.Mathlib.Omega.{arith}
use lib.IntN.{ℤ, pos, negsuc, ◌+ℤ◌, ◌*ℤ◌}
use borrow.Author.Tests.{le-ltb}
use mir.Syntax.{w32}
use mir.Val.{SFits}
use Rattle.fixed.specs.Range.{clamp}
use Rattle.products.specs.Product.{smulww, smlaww}
use Rattle.fixed.specs.Wrap.{wrap32}
use Rattle.fixed.specs.Shift.{shr, shl32, shr32}
use Rattle.fixed.proofs.Lin.{eq_of, neg-lin}
use Rattle.fixed.proofs.Wraps.{wrap32-id, wrap32-add-r}
use Rattle.word_steps.specs.Inlines.{lshift_SAT32, err_Q32, refined}

-- a product by 1, and a quotient
by_one : (n : ℕ) → negsuc n *ℤ pos 1 ≡ negsuc (n / 1)
by_one n = eq_of (negsuc n *ℤ pos 1) (negsuc (n / 1)) (omega (arith, neg-lin (pos (suc n * 1))))

-- Where lshift is 0 the saturating shift, which silk_INVERSE32_varQ takes there, and the shift down, which
-- silk_DIV32_varQ takes, give the same.
pub by-none : (z : ℤ) → SFits w32 z → lshift_SAT32 z 0 ≡ shr32 z 0
unfolding lshift_SAT32 shl32 shr32 shr clamp
by-none (pos n) f =
    let l : n < 2 ^ 31 = f.sfits in
    rw (le-ltb 2147483647 n (omega arith)) (wrap32-id {z = pos (n * 1)} (record { sfits = omega arith }) ∙ ap pos (omega arith))
by-none (negsuc n) f =
    let l : n < 2 ^ 31 = f.sfits in
    rw (le-ltb 2147483647 n (omega arith)) (rw by_one (wrap32-id {z = negsuc (n / 1)} (record { sfits = omega arith })))

-- The last step of the inverse as the Rust writes it: a sum in 64 bits, of which 32 are kept.
pub refined-wide : (n inv : ℤ) → refined n inv ≡ wrap32 (shl32 inv 16 +ℤ shr (err_Q32 n inv *ℤ inv) 16)
unfolding refined smlaww smulww
refined-wide n inv = wrap32-add-r (shl32 inv 16) (shr (err_Q32 n inv *ℤ inv) 16)
