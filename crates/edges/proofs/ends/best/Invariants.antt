-- `edges::ends::best` meets its contract. Assumes nothing.
use lib.ListN.{get_or}
use lib.Signed.{lt_z}
use Rattle.path.specs.Data.{no_path}
use Rattle.edges.proofs.ends.best.Given as goal

abbrev pub ghost-first_best : goal.ghost-first_best
ghost-first_best a = λ k w. lt_z (get_or a.beats.0.now k no_path).RD_Q10 (get_or a.beats.0.now w no_path).RD_Q10
