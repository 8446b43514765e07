-- `sheet_print::sheet::row_line` meets its contract. Assumes nothing.
use mathlib.Core.List.{map}
use lib.ListN.{take}
use Rattle.pages.specs.Added.{Added}
use Rattle.sheet_text.specs.Text.{spaced}
use Rattle.sheet_print.proofs.sheet.row_line.Given as goal

abbrev pub invariant-loop-x : goal.invariant-loop-x
invariant-loop-x g l = Added l.initial.page (spaced (map g.T.Number.value (take l.x-index l.row))) l.page
