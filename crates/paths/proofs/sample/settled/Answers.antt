-- `paths::sample::settled` meets its contract. Assumes nothing.
use mathlib.Core.Path.{ap, ◌∙◌}
use Rattle.path.specs.Data.{Paths}
use Rattle.steps.specs.Settled.{settled, replacing, Settled, leaving}
use Rattle.paths.proofs.sample.settled.Goals as goal

pub returns : goal.returns
unfolding settled replacing
returns c =
    let a = c.args in
    let leave : Paths → Settled = leaving c.moved_over-e.result a.n a.i a.r a.last c.least-w.result in record {
      words = c.leaving.ensures
          ∙ ap leave (c.replaced.ensures.words a.i)
          ∙ simp (c.moved_over-e.ensures, c.swap_of-s.ensures.0, c.penalised-d.ensures, c.least-w.ensures.0);
      chosen = c.replaced.ensures.chosen ∙ simp (c.swap_of-s.ensures.0, c.penalised-d.ensures, c.least-w.ensures.0);
    }
