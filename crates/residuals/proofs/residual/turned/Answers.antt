-- `residuals::residual::turned` meets its contract. Assumes nothing.
use mathlib.Core.Path.{◌∙◌}
use lib.IntN.{pos}
use Rattle.fixed.proofs.Fit.{read, got32, test32, lit32}
use Rattle.residuals.specs.Residual.{turned}
use Rattle.residuals.proofs.residual.turned.Goals as goal

pub returns-then-seed-lt0 : goal.returns-then-seed-lt0
unfolding turned
returns-then-seed-lt0 c =
    let f = c.ranges in
    rw (test32 f.seed (lit32 (pos 0) tt) c.if-seed-lt0.true)
    (got32 c.neg32.result c.neg32.type_inv ∙ rw (read f.v) at c.neg32.ensures)

pub returns-else-seed-lt0 : goal.returns-else-seed-lt0
unfolding turned
returns-else-seed-lt0 c =
    let f = c.ranges in
    rw (test32 f.seed (lit32 (pos 0) tt) c.if-seed-lt0.false) (read f.v)
