-- `sheet_text::text::value_lines` meets its contract. Assumes nothing.
use mathlib.Core.List.{map}
use lib.ListN.{take}
use Rattle.pages.specs.Added.{Added}
use Rattle.sheet_text.specs.Text.{pulse_lines}
use Rattle.sheet_text.proofs.text.value_lines.Given as goal

abbrev pub invariant-loop-i : goal.invariant-loop-i
invariant-loop-i g l = Added l.initial.page (pulse_lines l.n 0 (map g.T.Number.value (take l.i l.values))) l.page
