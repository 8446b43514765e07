-- `subframes::scalars::rewhites` meets its contract. Assumes nothing.
use borrow.Author.Tests.{eq-eqb, ne_eqb}
use Rattle.steps.specs.Call.{rewhites_by}
use Rattle.subframes.proofs.scalars.rewhites.Goals as goal

pub returns-then-k-eq0 : goal.returns-then-k-eq0
unfolding rewhites_by
returns-then-k-eq0 c = rw (eq-eqb c.args.k 0 c.if-k-eq0.true)

pub returns-else-k-eq0 : goal.returns-else-k-eq0
unfolding rewhites_by
returns-else-k-eq0 c = rw (ne_eqb c.args.k 0 c.if-k-eq0.false) c.second.ensures
