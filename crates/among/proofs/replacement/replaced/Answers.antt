-- `among::replacement::replaced` meets its contract. Assumes nothing.
use Rattle.steps.specs.Among.{full_copy, replaced, copied}
use Rattle.steps.specs.Carried.{copied_row}
use Rattle.among.proofs.replacement.replaced.Goals as goal

pub returns-then-s : goal.returns-then-s
unfolding replaced copied full_copy copied_row
returns-then-s c = let yes = c.if-s.true in record { words = λ i. rw yes; chosen = rw yes }

pub returns-else-s : goal.returns-else-s
unfolding replaced copied_row
returns-else-s c = record { words = λ i. rw c.if-s.false; chosen = rw c.if-s.false }
