-- `coding::accepted::opened` meets its contract. Assumes nothing.
use Rattle.silk.specs.State.{zeros}
use Rattle.steps.specs.Carried.{no_rows}
use Rattle.std.proofs.Common.{rules}
use Rattle.coding.proofs.accepted.opened.Goals as goal

pub returns-clause-zero : goal.returns-clause-zero
unfolding no_rows zeros
returns-clause-zero c = rw c.of-work.ensures ((search rules, search rules), (search rules, (search rules, search rules)))
