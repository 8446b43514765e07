-- `subframes::scalars::row_of` meets its contract. Assumes nothing.
use Rattle.steps.specs.Call.{row_by}
use Rattle.subframes.proofs.scalars.row_of.Goals as goal

pub returns-then-g : goal.returns-then-g
unfolding row_by
returns-then-g c = rw c.if-g.true

pub returns-else-g : goal.returns-else-g
unfolding row_by
returns-else-g c = rw c.if-g.false
