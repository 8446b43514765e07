-- `sheet_form::sheet::end` meets its contract. Assumes nothing.
use native.Mathlib.Omega.{arith}
use Rattle.sheet_form.proofs.Whole.{end-good, end-bad}
use Rattle.sheet_form.proofs.sheet.end.Goals as goal

pub returns-then-text-end_of_run : goal.returns-then-text-end_of_run
returns-then-text-end_of_run c =
    let a = c.args in
    rw c.in_ok-at.was (end-good a.text.now a.k c.in_ok-at.at (omega (arith, c.end_of_run.ensures)))

pub returns-else-text-end_of_run : goal.returns-else-text-end_of_run
returns-else-text-end_of_run c =
    let a = c.args in
    rw c.in_ok-at.was (end-bad a.text.now a.k c.in_ok-at.at (omega (arith, c.end_of_run.ensures)))
