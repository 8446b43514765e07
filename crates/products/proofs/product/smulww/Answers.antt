-- `products::product::smulww` meets its contract. Assumes nothing.
use Prim.Native.Nat.{◌^◌}
use mathlib.Core.Path.{◌∙◌}
use Rattle.fixed.proofs.Fit.{fit-mul, fit-shr, read, got32, wide32}
use Rattle.products.specs.Product.{smulww}
use Rattle.fixed.specs.Shift.{shr}
use Rattle.products.proofs.product.smulww.Goals as goal

pub returns : goal.returns
unfolding smulww shr
returns c =
    let f = c.ranges in
    let a = wide32 f.a in
    let b = wide32 f.b in
    let p = fit-mul _ _ f.a f.b in
    got32 c.low32.result c.low32.type_inv ∙ rw (a.0, b.0, a.1, b.1, read p, read (fit-shr _ _ (2 ^ 16) p)) at c.low32.ensures
