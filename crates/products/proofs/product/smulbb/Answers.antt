-- `products::product::smulbb` meets its contract. Assumes nothing.
use mathlib.Core.Path.{◌∙◌}
use Rattle.fixed.proofs.Fit.{read, got32, got16}
use Rattle.products.specs.Product.{smulbb}
use Rattle.products.proofs.product.smulbb.Goals as goal

pub returns : goal.returns
unfolding smulbb
returns c =
    let f = c.ranges in
    let x = rw (read f.a) at c.low16.ensures in
    let y = rw (read f.b) at c.low16-2.ensures in
    got32 c.mul16.result c.mul16.type_inv
    ∙ rw (got16 c.low16.result c.low16.type_inv, got16 c.low16-2.result c.low16-2.type_inv, x, y) at c.mul16.ensures
