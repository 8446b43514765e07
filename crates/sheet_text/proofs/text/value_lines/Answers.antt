-- `sheet_text::text::value_lines` meets its contract. Assumes nothing.
use mathlib.Core.Path.{sym}
use Rattle.pages.proofs.Pages.{added_none, added_then, added_as}
use Rattle.sheet_text.specs.Text.{pulse_lines}
use Rattle.sheet_text.proofs.Lines.{row-more}
use Rattle.sheet_text.proofs.text.value_lines.Goals as goal

pub loop-i-init : goal.loop-i-init
unfolding pulse_lines
loop-i-init g c = added_none c.args.page.now

pub loop-i-preserved : goal.loop-i-preserved
loop-i-preserved g c =
    let l = c.loop-i in
    let x = c.index-values-i in
    added_as (sym (row-more g.T.Number.value _ l.i c.args.values.now x.result c.loop-i-test.true x.is))
    (added_then _ _ l.invariant (added_then _ _ c.decimal.ensures (rw c.after_pulse.ensures at c.put.ensures)))
