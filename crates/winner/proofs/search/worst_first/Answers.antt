-- `winner::search::worst_first` meets its contract. Assumes nothing.
use Rattle.winner.specs.Winner.{worst_of}
use Rattle.winner.proofs.search.worst_first.Goals as goal

pub returns : goal.returns
unfolding worst_of
returns c = c.first_best.ensures
