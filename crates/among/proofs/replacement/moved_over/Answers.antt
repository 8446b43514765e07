-- `among::replacement::moved_over` meets its contract. Assumes nothing.
use Rattle.steps.specs.Among.{moved_over}
use Rattle.among.proofs.replacement.moved_over.Goals as goal

pub returns-then-s : goal.returns-then-s
unfolding moved_over
returns-then-s c = rw c.if-s.true

pub returns-else-s : goal.returns-else-s
unfolding moved_over
returns-else-s c = rw c.if-s.false
