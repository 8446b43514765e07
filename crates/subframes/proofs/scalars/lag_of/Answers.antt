-- `subframes::scalars::lag_of` meets its contract. Assumes nothing.
use lib.ListN.{get_or}
use lib.IntN.{pos}
use mir.Syntax.{w32}
use Rattle.fixed.proofs.Fit.{back}
use Rattle.steps.specs.Call.{lag_by}
use Rattle.subframes.proofs.scalars.lag_of.Goals as goal

pub returns-then-g : goal.returns-then-g
unfolding lag_by
returns-then-g c =
    let a = c.args in
    rw c.if-g.true (rw (back w32 (get_or a.lags.now a.k (pos 0)) c.lag-1.given) at c.count.ensures)

pub returns-else-g : goal.returns-else-g
unfolding lag_by
returns-else-g c = rw c.if-g.false
