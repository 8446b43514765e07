-- `products::product::smulwt` meets its contract. Assumes nothing.
use mathlib.Core.Path.{◌∙◌}
use Rattle.fixed.proofs.Fit.{read, got32, got16}
use Rattle.products.specs.Product.{smulwt}
use Rattle.products.proofs.product.smulwt.Goals as goal

pub returns : goal.returns
unfolding smulwt
returns c =
    let f = c.ranges in
    let h = rw (read f.packed) at c.high16.ensures in
    got32 c.smulwb.result c.smulwb.type_inv
    ∙ rw (read f.a, got16 c.high16.result c.high16.type_inv, h) at c.smulwb.ensures
