-- `places::ring::down` meets its contract. Assumes nothing.
use borrow.Author.Tests.{eq-eqb, ne_eqb}
use native.Mathlib.Omega.{arith}
use Rattle.places.specs.Places.{down}
use Rattle.places.proofs.ring.down.Goals as goal

pub returns-then-r-eq0 : goal.returns-then-r-eq0
unfolding down
returns-then-r-eq0 c = (rw (eq-eqb _ _ c.if-r-eq0.true), omega arith)

pub returns-else-r-eq0 : goal.returns-else-r-eq0
unfolding down
returns-else-r-eq0 c = (rw (ne_eqb _ _ c.if-r-eq0.false), omega arith)
