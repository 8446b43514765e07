-- `inverses::inverse::shifted` meets its contract. Assumes nothing.
use mathlib.Core.Path.{◌∙◌}
use borrow.Author.Tests.{le-leb, lt-leb, lt-ltb, le-ltb}
use Rattle.word_steps.specs.Inlines.{shifted}
use Rattle.fixed.proofs.Fit.{read, got32}
use Rattle.inverses.proofs.inverse.shifted.Goals as goal

pub returns-then-down-up : goal.returns-then-down-up
unfolding shifted
returns-then-down-up c =
    let m = c.lshift_SAT32 in
    rw (le-leb _ _ c.if-down-up.true) (got32 m.result m.type_inv ∙ rw (read c.ranges.res) at m.ensures)

pub returns-then-lshift-lt32 : goal.returns-then-lshift-lt32
unfolding shifted
returns-then-lshift-lt32 c =
    let m = c.shr32 in
    rw (lt-leb _ _ c.if-down-up.false, lt-ltb _ _ c.if-lshift-lt32.true)
    (got32 m.result m.type_inv ∙ rw (read c.ranges.res) at m.ensures)

pub returns-else-lshift-lt32 : goal.returns-else-lshift-lt32
unfolding shifted
returns-else-lshift-lt32 c = rw (lt-leb _ _ c.if-down-up.false, le-ltb _ _ c.if-lshift-lt32.false)
