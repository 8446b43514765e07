-- `sheet_form::rows::Words::of` meets its contract. Assumes nothing.
use mathlib.Core.Path.{◌≡◌}
use lib.ListN.{take}
use Rattle.sheet_form.proofs.rows.Words.of.Given as goal

abbrev pub invariant-loop-x : goal.invariant-loop-x
invariant-loop-x g l = l.row.items ≡ take l.x-index l.numbers
