-- `levels::lower::lower_pulse` meets its contract. Assumes nothing.
use mathlib.Core.Path.{◌∙◌}
use lib.IntN.{pos}
use Rattle.fixed.proofs.Fit.{read, got32, test32, lit32}
use Rattle.levels.proofs.Laws.{fit-halved}
use Rattle.levels.specs.Levels.{q1_Q0}
use Rattle.levels.proofs.lower.lower_pulse.Goals as goal

pub returns-then-lambda-gt2048 : goal.returns-then-lambda-gt2048
unfolding q1_Q0
returns-then-lambda-gt2048 c =
    let f = c.ranges in
    let v = got32 c.sub32.result c.sub32.type_inv ∙ rw (read f.lambda, read (fit-halved f.lambda)) at c.sub32.ensures in
    rw (test32 (lit32 (pos 2048) tt) f.lambda c.if-lambda-gt2048.true)
    (got32 c.biased.result c.biased.type_inv ∙ rw (read f.q, v) at c.biased.ensures)

pub returns : goal.returns
unfolding q1_Q0
returns c =
    let f = c.ranges in
    rw (test32 (lit32 (pos 2048) tt) f.lambda c.if-lambda-gt2048.false)
    (got32 c.shr32.result c.shr32.type_inv ∙ rw (read f.q) at c.shr32.ensures)
