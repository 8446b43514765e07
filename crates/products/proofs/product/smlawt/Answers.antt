-- `products::product::smlawt` meets its contract. Assumes nothing.
use mathlib.Core.Path.{◌∙◌}
use Rattle.fixed.proofs.Fit.{read, got32}
use Rattle.products.specs.Product.{smlawt}
use Rattle.products.proofs.product.smlawt.Goals as goal

pub returns : goal.returns
unfolding smlawt
returns c =
    let f = c.ranges in
    let e = rw (read f.a, read f.packed) at c.smulwt.ensures in
    got32 c.add32.result c.add32.type_inv
    ∙ rw (read f.acc, got32 c.smulwt.result c.smulwt.type_inv, e) at c.add32.ensures
