-- `paths::sample::leaving` meets its contract. Assumes nothing.
use mathlib.Core.Path.{ap, ◌∙◌}
use mir.Syntax.{w32}
use Rattle.fixed.proofs.Fit.{back}
use Rattle.path.specs.Data.{Paths}
use Rattle.steps.specs.Settled.{leaving, Settled}
use Rattle.paths.proofs.sample.leaving.Goals as goal

pub returns : goal.returns
unfolding leaving
returns c =
    let put : Paths → Settled = λ t. record {
      ps = t;
      Q_Q10 = c.ring_at-q.result;
      Xq_Q14 = c.ring_at-xq.result;
      Pred_Q15 = c.ring_at-pred.result;
      Shape_Q14 = c.ring_at-shape.result;
    } in
    simp (
      back w32 c.ring_at-q.result c.ring_at-q.type_inv,
      back w32 c.ring_at-xq.result c.ring_at-xq.type_inv,
      back w32 c.ring_at-pred.result c.ring_at-pred.type_inv,
      back w32 c.ring_at-shape.result c.ring_at-shape.type_inv,
    )
    (ap put c.taken_all.ensures ∙ rw (c.ring_at-q.ensures, c.ring_at-xq.ensures, c.ring_at-pred.ensures, c.ring_at-shape.ensures))
