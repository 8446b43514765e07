-- `calls::call::delay` meets its contract. Assumes nothing.
use Rattle.steps.specs.Call.{delay_by}
use Rattle.calls.proofs.call.delay.Goals as goal

pub returns-then-voiced : goal.returns-then-voiced
unfolding delay_by
returns-then-voiced c = rw c.if-voiced.true c.voiced_delay.ensures

pub returns-else-voiced : goal.returns-else-voiced
unfolding delay_by
returns-else-voiced c = rw c.if-voiced.false c.quiet_delay.ensures
