-- What std's `wrapping_` methods leave of a number is what `wrap_to` makes of it. Assumes nothing.
use mathlib.Core.Path.{◌≡◌, refl, ap, ◌∙◌}
use Prim.Native.Nat.{ℕ, ◌+◌, ◌-◌, ◌*◌, ◌/◌, ◌%◌, ◌^◌, ◌<◌}
use native.Mathlib.Omega.{arith}
use native.Mathlib.Nat.{mod-lt, div-add-mod'}
use lib.Dec.{lit<}
use lib.IntN.{ℤ, pos, negsuc}
use mir.Syntax.{Width, w32}
use mir.Val.{to_z, bits, hbits}
use Rattle.std.specs.Int.{int_wrap}
use Rattle.fixed.specs.Wrap.{wrap_to, wrap32}
use Rattle.fixed.proofs.Wraps.{low_bits, to_z-wraps, wrap-cong}

wrapped : (w : Width) (h : ℕ) (z : ℤ) → 2 ^ hbits w ≡ h → 2 ^ bits w ≡ 2 * h → 0 < h → int_wrap w z ≡ wrap_to h z
unfolding int_wrap
wrapped w h (pos n) e f p = low_bits w h 0 0 n (pos n) e f p (omega arith)
wrapped w h (negsuc n) e f p =
    let u = 2 * h - 1 - n % (2 * h) in
    let q : 0 < 2 * h = omega arith in
    let r = mod-lt n q in
    ap (λ (m : ℕ). to_z w (m - 1 - n % m)) f
    ∙ to_z-wraps w h u e f p (omega arith)
    ∙ wrap-cong h 0 (1 + n / (2 * h)) (pos u) (negsuc n) p (omega (arith, div-add-mod' n (2 * h)))

pub wrapped32 : (z : ℤ) → int_wrap w32 z ≡ wrap32 z
unfolding wrap32
wrapped32 z = wrapped w32 (2 ^ 31) z refl refl (lit< tt)
