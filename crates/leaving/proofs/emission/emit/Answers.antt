-- `leaving::emission::emit` meets its contract. Assumes nothing.
use mathlib.Core.Path.{◌∙◌, sym}
use native.Mathlib.Omega.{arith}
use Rattle.leaving.proofs.LeftIn.{left_in}
use Rattle.leaving.proofs.emission.emit.Goals as goal

pub overflow_sub-p : goal.overflow_sub-p
overflow_sub-p c =
    omega (arith, left_in c.args.f c.args.i c.requires.0 (sym c.leaves-now.ensures ∙ c.if-now.true))
