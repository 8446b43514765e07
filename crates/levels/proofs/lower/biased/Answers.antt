-- `levels::lower::biased` meets its contract. Assumes nothing.
use mathlib.Core.Path.{◌∙◌}
use lib.IntN.{pos}
use Rattle.fixed.proofs.Fit.{read, got32, test32, lit32}
use Rattle.levels.specs.Levels.{biased}
use Rattle.levels.proofs.lower.biased.Goals as goal

pub returns-then-q-bias : goal.returns-then-q-bias
unfolding biased
returns-then-q-bias c =
    let f = c.ranges in
    let v = got32 c.sub32.result c.sub32.type_inv ∙ rw (read f.q, read f.bias) at c.sub32.ensures in
    rw (test32 f.bias f.q c.if-q-bias.true) (got32 c.shr32.result c.shr32.type_inv ∙ rw v at c.shr32.ensures)

pub returns-then-q-neg32 : goal.returns-then-q-neg32
unfolding biased
returns-then-q-neg32 c =
    let f = c.ranges in
    let n = got32 c.neg32.result c.neg32.type_inv ∙ rw (read f.bias) at c.neg32.ensures in
    let v = got32 c.add32.result c.add32.type_inv ∙ rw (read f.q, read f.bias) at c.add32.ensures in
    rw (test32 f.bias f.q c.if-q-bias.false, rw (read f.q, n) at c.if-q-neg32.true)
    (got32 c.shr32-then-q-neg32.result c.shr32-then-q-neg32.type_inv ∙ rw v at c.shr32-then-q-neg32.ensures)

pub returns-then-q-lt0 : goal.returns-then-q-lt0
unfolding biased
returns-then-q-lt0 c =
    let f = c.ranges in
    let n = got32 c.neg32.result c.neg32.type_inv ∙ rw (read f.bias) at c.neg32.ensures in
    rw (test32 f.bias f.q c.if-q-bias.false, rw (read f.q, n) at c.if-q-neg32.false, test32 f.q (lit32 (pos 0) tt) c.if-q-lt0.true)

pub returns-else-q-lt0 : goal.returns-else-q-lt0
unfolding biased
returns-else-q-lt0 c =
    let f = c.ranges in
    let n = got32 c.neg32.result c.neg32.type_inv ∙ rw (read f.bias) at c.neg32.ensures in
    rw (test32 f.bias f.q c.if-q-bias.false, rw (read f.q, n) at c.if-q-neg32.false, test32 f.q (lit32 (pos 0) tt) c.if-q-lt0.false)
