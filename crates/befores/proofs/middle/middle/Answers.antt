-- `befores::middle::middle` meets its contract. Assumes nothing.
use mathlib.Core.Path.{ap, refl, ◌∙◌}
use Prim.Native.Nat.{ℕ}
use lib.Seq.{set-get_or}
use Rattle.fixed.proofs.Fit.{read}
use Rattle.path.specs.Data.{Running, running}
use Rattle.edges.specs.Fits.{fit_by}
use Rattle.steps.specs.Flush.{Outs, fit_middle}
use Rattle.steps.specs.Frame.{middle_by, middle_with, after_middle, flushed_run}
use Rattle.befores.proofs.middle.middle.Goals as goal

pub returns : goal.returns
unfolding middle_by flushed_run fit_by fit_middle
returns c =
    let a = c.args in
    let win = c.best-win.result in
    let e = rw (read c.ranges.gain) at c.flushed.ensures in
    let t = running a.w.now a.pulses.now in
    let after : Outs → Running = λ o. after_middle a.n win t o in
    record {
      words = rw c.others_raised.ensures (simp set-get_or (ap after e)) ∙ ap (λ (j : ℕ). middle_with a.n a.l a.d a.gain t j) c.best-win.ensures.0;
      kept = (refl, refl);
    }
