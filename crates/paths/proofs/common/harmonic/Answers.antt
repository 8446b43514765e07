-- `paths::common::harmonic` meets its contract. Assumes nothing.
use mathlib.Core.Path.{◌∙◌}
use borrow.Author.Tests.{lt-ltb, le-ltb}
use Rattle.fixed.proofs.Fit.{got32, read}
use Rattle.steps.specs.Shared.{harmonic}
use Rattle.paths.proofs.common.harmonic.Goals as goal

pub returns-then-f-gt0 : goal.returns-then-f-gt0
unfolding harmonic
returns-then-f-gt0 c =
    let r = c.n_LTP in
    rw (lt-ltb _ _ c.if-f-gt0.true) (got32 r.result r.type_inv ∙ rw (read c.ranges.packed, read c.ranges.ltp_pred) at r.ensures)

pub returns-else-f-gt0 : goal.returns-else-f-gt0
unfolding harmonic
returns-else-f-gt0 c = rw (le-ltb _ _ c.if-f-gt0.false)
