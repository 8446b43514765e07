-- `sheet_text::text::put_answer` meets its contract. Assumes nothing.
use Rattle.fixed.proofs.Fit.{read}
use Rattle.std.proofs.lemmas.List.{map-id}
use Rattle.pages.proofs.Pages.{added_then, added_as}
use Rattle.sheet_text.proofs.Lines.{accepted-text, refused-text}
use Rattle.sheet_text.proofs.text.put_answer.Goals as goal

pub returns-then-number-eq0 : goal.returns-then-number-eq0
returns-then-number-eq0 c =
    let a = c.args in
    let s = rw (read c.ranges.seed) at c.number_line-then-number-eq0.ensures in
    let v = rw (map-id a.pulses.now) at c.value_lines.ensures in
    added_as (accepted-text a.number a.seed a.pulses.now c.if-number-eq0.true) (added_then _ _ (added_then _ _ c.number_line.ensures s) v)

pub returns-else-number-eq0 : goal.returns-else-number-eq0
returns-else-number-eq0 c =
    let a = c.args in
    added_as (refused-text a.number a.seed a.pulses.now c.if-number-eq0.false) c.number_line.ensures
