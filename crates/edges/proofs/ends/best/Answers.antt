-- `edges::ends::best` meets its contract. Assumes nothing.
use Rattle.steps.specs.Flush.{best_of}
use Rattle.edges.proofs.ends.best.Goals as goal

pub returns : goal.returns
unfolding best_of
returns c = c.first_best.ensures
