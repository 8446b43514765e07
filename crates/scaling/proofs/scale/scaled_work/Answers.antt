-- `scaling::scale::scaled_work` meets its contract. Assumes nothing.
use Rattle.fixed.proofs.Fit.{read}
use Rattle.steps.specs.Scale.{scaled_work}
use Rattle.scaling.proofs.scale.scaled_work.Goals as goal
use Rattle.scaling.proofs.scale.scaled_work.Goals.{else-f-via-then-f+else-not-rewhitened, else-f-via-else-f}

pub returns-then-not-rewhitened : goal.returns-then-not-rewhitened
unfolding scaled_work
returns-then-not-rewhitened c =
    let f = read c.ranges.adj in
    rw (c.if-f.true, c.if-not-rewhitened.true) (rw f at c.scaled_words.ensures)

pub returns-else-f : goal.returns-else-f
unfolding scaled_work
returns-else-f c =
    elim c.else-f.branch [
      | else-f-via-then-f+else-not-rewhitened w ↦ rw (w.if-f.true, w.if-not-rewhitened.false)
      | else-f-via-else-f w ↦ rw w.if-f.false
    ]
