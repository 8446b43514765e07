-- `cleaning::rows::tilt` meets its contract. Assumes nothing.
use mathlib.Core.Path.{◌∙◌}
use native.Mathlib.Omega.{arith}
use Rattle.cleaning.proofs.Loops.{loop-low}
use Rattle.cleaning.proofs.rows.tilt.Goals as goal

pub returns : goal.returns
returns c = c.loop-w.invariant ∙ loop-low c.loop-w.w-index c.args.row.now (omega arith)
