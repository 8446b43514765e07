-- `plain_fresh::rows::fresh_rows` meets its contract. Assumes nothing.
use lib.ListN.{length}
use borrow.Author.Tests.{eq-eqb, ne_eqb}
use Rattle.plain_fresh.specs.Fresh.{state_fits, freshened}
use Rattle.plain_fresh.proofs.rows.fresh_rows.Goals as goal
use Rattle.plain_fresh.proofs.rows.fresh_rows.Goals.{then-samples-ne640-via-then-samples-ne640, then-samples-ne640-via-else-samples-ne640+then-words-ne767}

pub returns-then-samples-ne640 : goal.returns-then-samples-ne640
unfolding freshened state_fits
returns-then-samples-ne640 c =
    let a = c.args in
    elim c.then-samples-ne640.branch [
      | then-samples-ne640-via-then-samples-ne640 w ↦ rw (ne_eqb (length a.samples.now) 640 w.if-samples-ne640.true)
      | then-samples-ne640-via-else-samples-ne640+then-words-ne767 w ↦
          rw (eq-eqb (length a.samples.now) 640 w.if-samples-ne640.false, ne_eqb (length a.words.now) 767 w.if-words-ne767.true)
    ]

pub returns : goal.returns
unfolding freshened state_fits
returns c =
    let a = c.args in
    rw (
      eq-eqb (length a.samples.now) 640 c.if-samples-ne640.false,
      eq-eqb (length a.words.now) 767 c.if-words-ne767.false,
      c.lay_samples.ensures,
      c.lay_words.ensures,
      c.fresh-state.ensures,
    )
