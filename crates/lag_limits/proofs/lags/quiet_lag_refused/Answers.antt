-- `lag_limits::lags::quiet_lag_refused` meets its contract. Assumes nothing.
use lib.IntN.{pos}
use borrow.Author.Tests.{eq-eqb}
use Rattle.fixed.proofs.Fit.{read, lit32}
use Rattle.limits.specs.Tests.{quiet_lag_refused}
use Rattle.limits.proofs.Laws.{same-yes, same-no}
use Rattle.lag_limits.proofs.lags.quiet_lag_refused.Goals as goal

pub returns-then-lag-ne0 : goal.returns-then-lag-ne0
unfolding quiet_lag_refused
returns-then-lag-ne0 c = let f = c.ranges in rw (same-no f.lag (lit32 (pos 0) tt) c.if-lag-ne0.true) (rw (read f.l, read f.lag) at c.lag_refused.ensures)

pub returns-else-lag-ne0 : goal.returns-else-lag-ne0
unfolding quiet_lag_refused
returns-else-lag-ne0 c = rw (same-yes c.ranges.lag (lit32 (pos 0) tt) c.if-lag-ne0.false, eq-eqb _ _ c.if-lag-ne0.false)
