-- `setting_limits::settings::count_allowed` meets its contract. Assumes nothing.
use lib.IntN.{pos}
use borrow.Author.Tests.{eq-eqb}
use Rattle.fixed.proofs.Fit.{lit32}
use Rattle.limits.specs.Tests.{count_allowed}
use Rattle.limits.proofs.Laws.{same-yes, same-no, same_bits}
use Rattle.setting_limits.proofs.settings.count_allowed.Goals as goal

pub returns-then-n-eq2 : goal.returns-then-n-eq2
unfolding count_allowed
returns-then-n-eq2 c = rw (same-yes c.ranges.n (lit32 (pos 2) tt) c.if-n-eq2.true, eq-eqb _ _ c.if-n-eq2.true)

pub returns-else-n-eq2 : goal.returns-else-n-eq2
unfolding count_allowed
returns-else-n-eq2 c =
    let f = c.ranges.n in rw (same-no f (lit32 (pos 2) tt) c.if-n-eq2.false) (same_bits f (lit32 (pos 4) tt))
