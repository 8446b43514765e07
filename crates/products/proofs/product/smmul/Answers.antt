-- `products::product::smmul` meets its contract. Assumes nothing.
use Rattle.fixed.proofs.Fit.{fit}
use Rattle.products.specs.Product.{smmul}
use Rattle.fixed.specs.Shift.{shr}
use Rattle.std.proofs.Common.{rules}
use Rattle.products.proofs.product.smmul.Goals as goal

pub returns : goal.returns
unfolding smmul shr
returns c = search (rules, fit)
