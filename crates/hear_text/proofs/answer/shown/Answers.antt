-- `hear_text::answer::shown` meets its contract. Assumes nothing.
use Rattle.std.proofs.lemmas.List.{map-id}
use Rattle.pages.proofs.Pages.{added_then, added_as}
use Rattle.hear_text.proofs.Parts.{values-text, number-text}
use Rattle.hear_text.proofs.answer.shown.Goals as goal

pub returns-then-number-eq0 : goal.returns-then-number-eq0
returns-then-number-eq0 c =
    let a = c.args in
    added_as (values-text a.number a.values.now c.if-number-eq0.true) (added_then _ _ c.number_line.ensures (rw (map-id a.values.now) at c.value_lines.ensures))

pub returns-else-number-eq0 : goal.returns-else-number-eq0
returns-else-number-eq0 c =
    let a = c.args in
    added_as (number-text a.number a.values.now c.if-number-eq0.false) c.number_line.ensures
