-- `setting_limits::settings::outside` meets its contract. Assumes nothing.
use Rattle.fixed.proofs.Fit.{read, test32}
use Rattle.limits.specs.Tests.{outside}
use Rattle.setting_limits.proofs.settings.outside.Goals as goal

pub returns-then-x-lo : goal.returns-then-x-lo
unfolding outside
returns-then-x-lo c = let f = c.ranges in rw (test32 f.x f.lo c.if-x-lo.true, c.if-x-lo.true)

pub returns-else-x-lo : goal.returns-else-x-lo
unfolding outside
returns-else-x-lo c = let f = c.ranges in rw (test32 f.x f.lo c.if-x-lo.false, read f.x, read f.hi)
