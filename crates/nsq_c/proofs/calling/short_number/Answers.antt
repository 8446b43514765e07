-- `nsq_c::calling::short_number` meets its contract. Assumes nothing.
use lib.ListN.{length}
use borrow.Author.Tests.{eq-eqb, ne_eqb}
use Rattle.nsq_c.specs.Report.{short_number}
use Rattle.nsq_c.proofs.calling.short_number.Goals as goal

pub returns-then-settings-ne12 : goal.returns-then-settings-ne12
unfolding short_number
returns-then-settings-ne12 c = rw (ne_eqb (length c.args.settings.now) 12 c.if-settings-ne12.true, c.number.ensures)

pub returns : goal.returns
unfolding short_number
returns c =
    rw (eq-eqb (length c.args.settings.now) 12 c.if-settings-ne12.false, c.stateless_number.ensures, c.settings_of.ensures)
