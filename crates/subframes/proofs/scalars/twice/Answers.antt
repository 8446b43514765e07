-- `subframes::scalars::twice` meets its contract. Assumes nothing.
use Rattle.steps.specs.Call.{twice_by}
use Rattle.subframes.proofs.scalars.twice.Goals as goal

pub returns-then-g : goal.returns-then-g
unfolding twice_by
returns-then-g c = rw c.if-g.true

pub returns-else-g : goal.returns-else-g
unfolding twice_by
returns-else-g c = rw c.if-g.false
