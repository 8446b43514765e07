-- `calls::call::voiced_delay` meets its contract. Assumes nothing.
use mathlib.Core.Path.{◌≡◌}
use Rattle.fixed.specs.Iter.{iter}
use Rattle.steps.specs.Call.{delay_turn}
use Rattle.calls.proofs.call.voiced_delay.Given as goal

abbrev pub invariant-loop-lag : goal.invariant-loop-lag
invariant-loop-lag l = l.d ≡ iter (delay_turn l.lags) l.lag-index l.initial.d
