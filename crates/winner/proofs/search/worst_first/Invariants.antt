-- `winner::search::worst_first` meets its contract. Assumes nothing.
use Rattle.winner.specs.Winner.{dearer}
use Rattle.winner.proofs.search.worst_first.Given as goal

abbrev pub ghost-first_best : goal.ghost-first_best
ghost-first_best a = dearer a.beats.0.now
