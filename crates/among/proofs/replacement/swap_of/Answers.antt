-- `among::replacement::swap_of` meets its contract. Assumes nothing.
use Rattle.path.specs.Data.{candidate_at}
use Rattle.steps.specs.Among.{swap_of}
use Rattle.path.proofs.Told.{candidate}
use Rattle.among.proofs.replacement.swap_of.Goals as goal

pub returns : goal.returns
unfolding swap_of
returns c =
    let d = c.args.c in
    let x = (candidate (candidate_at d c.least-by.result 1) c.struct_told-1.given).rd in
    let y = (candidate (candidate_at d c.worst_first-to.result 0) c.struct_told-2-1.given).rd in
    (simp (x, y) (simp (c.least-by.ensures.0, c.worst_first-to.ensures.0)), (c.worst_first-to.ensures.1, c.least-by.ensures.1))
