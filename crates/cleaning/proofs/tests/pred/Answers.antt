-- `cleaning::tests::pred` meets its contract. Assumes nothing.
use mathlib.Core.Path.{◌≡◌, sym, ◌∙◌}
use mathlib.Core.Bool.{true, false}
use Rattle.cleaning.specs.Cleaned.{row0_counts, pred_counts}
use Rattle.cleaning.proofs.tests.pred.Goals as goal

pub returns-then-row0 : goal.returns-then-row0
unfolding pred_counts
returns-then-row0 c =
    let a = c.args in
    let t : row0_counts a.s a.i ≡ true = sym c.row0.ensures ∙ c.if-row0.true in
    rw t c.if-row0.true

pub returns-else-row0 : goal.returns-else-row0
unfolding pred_counts
returns-else-row0 c =
    let a = c.args in
    let t : row0_counts a.s a.i ≡ false = sym c.row0.ensures ∙ c.if-row0.false in
    rw t c.row1.ensures
