-- `sheet_form::section::section` meets its contract. Assumes nothing.
use mathlib.Core.Path.{ap}
use Rattle.sheet_form.specs.Found.{taken}
use Rattle.sheet_form.proofs.section.section.Goals as goal

pub returns-in-Some : goal.returns-in-Some
unfolding taken
returns-in-Some g c = rw c.in_ok-at.was (ap (taken c.args.k) c.in-Some.ensures)

pub returns-in-None : goal.returns-in-None
unfolding taken
returns-in-None g c = rw c.in_ok-at.was (ap (taken c.args.k) c.in-None.ensures)
