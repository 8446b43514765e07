-- `setting_limits::settings::order_for` meets its contract. Assumes nothing.
use lib.IntN.{pos}
use Rattle.fixed.proofs.Fit.{lit32}
use Rattle.limits.specs.Tests.{order_for}
use Rattle.limits.proofs.Laws.{same-yes, same-no}
use Rattle.setting_limits.proofs.settings.order_for.Goals as goal

pub returns-then-l-eq80 : goal.returns-then-l-eq80
unfolding order_for
returns-then-l-eq80 c = rw (same-yes c.ranges.l (lit32 (pos 80) tt) c.if-l-eq80.true)

pub returns-else-l-eq80 : goal.returns-else-l-eq80
unfolding order_for
returns-else-l-eq80 c = rw (same-no c.ranges.l (lit32 (pos 80) tt) c.if-l-eq80.false)
