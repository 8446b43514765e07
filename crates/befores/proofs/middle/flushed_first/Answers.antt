-- `befores::middle::flushed_first` meets its contract. Assumes nothing.
use mathlib.Core.Path.{refl}
use Rattle.fixed.proofs.Fit.{read}
use Rattle.steps.specs.Frame.{flushed_first}
use Rattle.befores.proofs.middle.flushed_first.Goals as goal

pub returns-then-again : goal.returns-then-again
unfolding flushed_first
returns-then-again c =
    let g = read c.ranges.gain1 in
    let e = rw g at c.middle.ensures in
    record { words = rw c.if-again.true e.words; kept = e.kept }

pub returns-else-again : goal.returns-else-again
unfolding flushed_first
returns-else-again c = record { words = rw c.if-again.false; kept = (refl, refl) }
