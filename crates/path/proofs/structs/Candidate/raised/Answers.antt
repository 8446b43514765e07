-- `path::structs::Candidate::raised` meets its contract. Assumes nothing.
use mathlib.Core.Path.{◌∙◌}
use Rattle.fixed.proofs.Fit.{got32}
use Rattle.path.specs.Taken.{raised}
use Rattle.path.proofs.Told.{candidate}
use Rattle.path.proofs.structs.Candidate.raised.Goals as goal

pub returns : goal.returns
unfolding raised
returns c = simp (got32 c.add32.result c.add32.type_inv ∙ c.add32.ensures, (candidate c.args.self c.struct_told-1.given).rd)
