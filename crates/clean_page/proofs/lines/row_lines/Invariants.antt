-- `clean_page::lines::row_lines` meets its contract. Assumes nothing.
use mathlib.Core.List.{map}
use lib.ListN.{take}
use Rattle.pages.specs.Added.{Added}
use Rattle.cleaning.specs.Changes.{changes_in}
use Rattle.clean_page.specs.Text.{changes_text}
use Rattle.clean_page.proofs.lines.row_lines.Given as goal

abbrev pub invariant-loop-i : goal.invariant-loop-i
invariant-loop-i g l = Added l.initial.page (changes_text (changes_in l.section 1 (map g.T.Number.value (take l.i l.old)) (map g.T.Number.value (take l.i l.new)))) l.page
