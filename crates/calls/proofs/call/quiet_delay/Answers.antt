-- `calls::call::quiet_delay` meets its contract. Assumes nothing.
use borrow.Author.Tests.{lt-ltb, le-ltb}
use native.Mathlib.Omega.{arith}
use Rattle.steps.specs.Call.{quiet_delay}
use Rattle.calls.proofs.call.quiet_delay.Goals as goal

pub returns-then-lagPrev-gt0 : goal.returns-then-lagPrev-gt0
unfolding quiet_delay
returns-then-lagPrev-gt0 c = rw (lt-ltb 0 c.args.lagPrev c.if-lagPrev-gt0.true, ← c.most_delay-d.ensures) c.lowered.ensures

pub returns-else-lagPrev-gt0 : goal.returns-else-lagPrev-gt0
unfolding quiet_delay
returns-else-lagPrev-gt0 c = rw (le-ltb 0 c.args.lagPrev (omega arith)) c.most_delay-d.ensures
