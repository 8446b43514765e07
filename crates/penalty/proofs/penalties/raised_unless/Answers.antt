-- `penalty::penalties::raised_unless` meets its contract. Assumes nothing.
use borrow.Author.Tests.{eq-eqb, ne_eqb}
use Rattle.penalty.specs.Penalty.{raised_unless, same_word}
use Rattle.penalty.proofs.penalties.raised_unless.Goals as goal

pub returns-then-state-mark : goal.returns-then-state-mark
unfolding raised_unless same_word
returns-then-state-mark c = rw (eq-eqb _ _ c.if-state-mark.true)

pub returns : goal.returns
unfolding raised_unless same_word
returns c =
    simp (ne_eqb _ _ c.if-state-mark.false, c.raised.ensures, c.raised-2.ensures)
