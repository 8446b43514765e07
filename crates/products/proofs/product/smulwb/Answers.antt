-- `products::product::smulwb` meets its contract. Assumes nothing.
use Rattle.fixed.proofs.Fit.{fit}
use Rattle.products.specs.Product.{smulwb}
use Rattle.fixed.specs.Shift.{shr}
use Rattle.std.proofs.Common.{rules}
use Rattle.products.proofs.product.smulwb.Goals as goal

pub overflow_cast-result-3 : goal.overflow_cast-result-3
overflow_cast-result-3 c = search (rules, fit)

pub returns : goal.returns
unfolding smulwb shr
returns c = search (rules, fit)
