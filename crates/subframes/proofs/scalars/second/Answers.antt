-- `subframes::scalars::second` meets its contract. Assumes nothing.
use mathlib.Core.Path.{◌∙◌, sym}
use Rattle.steps.specs.Call.{second_by}
use Rattle.subframes.proofs.scalars.second.Goals as goal

pub returns-then-twice : goal.returns-then-twice
unfolding second_by
returns-then-twice c = rw (sym c.twice.ensures ∙ c.if-twice.true)

pub returns-else-twice : goal.returns-else-twice
unfolding second_by
returns-else-twice c = rw (sym c.twice.ensures ∙ c.if-twice.false) c.if-twice.false
