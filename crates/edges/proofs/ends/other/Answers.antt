-- `edges::ends::other` meets its contract. Assumes nothing.
use borrow.Author.Tests.{eq-eqb, ne_eqb}
use Rattle.steps.specs.Flush.{other_path}
use Rattle.edges.proofs.ends.other.Goals as goal

pub returns-then-k-w : goal.returns-then-k-w
unfolding other_path
returns-then-k-w c = rw (eq-eqb _ _ c.if-k-w.true)

pub returns-else-k-w : goal.returns-else-k-w
unfolding other_path
returns-else-k-w c = rw (ne_eqb _ _ c.if-k-w.false) c.raised.ensures
