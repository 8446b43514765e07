-- `fixed::wrap::neg32` meets its contract. Assumes nothing.
use mathlib.Core.Path.{◌∙◌}
use lib.IntN.{neg_ℤ}
use mir.Syntax.{w32}
use Rattle.std.proofs.lemmas.Int.{wrapping_neg_is}
use Rattle.fixed.proofs.Fit.{read, got32}
use Rattle.fixed.proofs.Wrapping.{wrapped32}
use Rattle.fixed.proofs.wrap.neg32.Goals as goal

pub returns : goal.returns
returns c =
    let a = c.args.a in
    got32 c.wrapping_neg.result c.wrapping_neg.type_inv
    ∙ rw (read c.ranges.a) at c.wrapping_neg.ensures ∙ wrapping_neg_is w32 a c.ranges.a ∙ wrapped32 (neg_ℤ a)
