-- `winner::search::least` meets its contract. Assumes nothing.
use Rattle.winner.specs.Winner.{cheaper}
use Rattle.winner.proofs.search.least.Given as goal

abbrev pub ghost-first_best : goal.ghost-first_best
ghost-first_best a = cheaper a.beats.0.now a.beats.1.now
