-- `excitation::refusals::rows_refused` meets its contract. Assumes nothing.
use borrow.Author.Tests.{ne_eqb, eq-eqb}
use Rattle.excitation.specs.Refused.{rows_refused}
use Rattle.excitation.proofs.refusals.rows_refused.Goals as goal

pub returns-then-pulses-row : goal.returns-then-pulses-row
unfolding rows_refused
returns-then-pulses-row c = simp (ne_eqb _ _ c.if-pulses-row.true)

pub returns-else-pulses-row : goal.returns-else-pulses-row
unfolding rows_refused
returns-else-pulses-row c = simp (eq-eqb _ _ c.if-pulses-row.false)
