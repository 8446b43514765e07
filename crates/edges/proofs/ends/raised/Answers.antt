-- `edges::ends::raised` meets its contract. Assumes nothing.
use mathlib.Core.Path.{◌∙◌}
use Rattle.fixed.proofs.Fit.{got32}
use Rattle.path.proofs.Told.{path}
use Rattle.steps.specs.Flush.{raised_path}
use Rattle.edges.proofs.ends.raised.Goals as goal

pub returns : goal.returns
unfolding raised_path
returns c = simp (got32 c.add32.result c.add32.type_inv ∙ c.add32.ensures, (path c.args.p c.struct_told-1.given).rd)
