-- `products::product::smlaww` meets its contract. Assumes nothing.
use mathlib.Core.Path.{◌∙◌}
use Rattle.fixed.proofs.Fit.{read, got32}
use Rattle.products.specs.Product.{smlaww}
use Rattle.products.proofs.product.smlaww.Goals as goal

pub returns : goal.returns
unfolding smlaww
returns c =
    let f = c.ranges in
    let e = rw (read f.a, read f.b) at c.smulww.ensures in
    got32 c.add32.result c.add32.type_inv
    ∙ rw (read f.acc, got32 c.smulww.result c.smulww.type_inv, e) at c.add32.ensures
