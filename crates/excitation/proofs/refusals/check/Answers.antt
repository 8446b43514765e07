-- `excitation::refusals::check` meets its contract. Assumes nothing.
use Rattle.fixed.proofs.Fit.{read}
use Rattle.excitation.specs.Refused.{answer_of, table, seed_refused}
use Rattle.excitation.proofs.refusals.check.Goals as goal

pub returns : goal.returns
unfolding answer_of table seed_refused
returns c =
    let f = c.ranges in
    let seeds = rw (read f.seed) at c.outside-seeds.ensures in
    let kinds = rw (read f.signal_type, read f.offset_type) at c.kinds_refused-kinds.ensures in
    rw (seeds, kinds, c.rows_refused-rows.ensures) at c.lowest.ensures
