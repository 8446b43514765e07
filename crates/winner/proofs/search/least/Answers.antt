-- `winner::search::least` meets its contract. Assumes nothing.
use Rattle.winner.specs.Winner.{least_of}
use Rattle.winner.proofs.search.least.Goals as goal

pub returns : goal.returns
unfolding least_of
returns c = c.first_best.ensures
