-- `paths::common::predicted` meets its contract. Assumes nothing.
use mathlib.Core.Path.{◌∙◌}
use Rattle.fixed.proofs.Fit.{got32}
use Rattle.steps.specs.Shared.{predicted}
use Rattle.paths.proofs.common.predicted.Goals as goal

pub returns-then-f : goal.returns-then-f
unfolding predicted
returns-then-f c =
    let r = c.ltp_prediction in rw c.if-f.true (got32 r.result r.type_inv ∙ r.ensures)

pub returns-else-f : goal.returns-else-f
unfolding predicted
returns-else-f c = rw c.if-f.false
