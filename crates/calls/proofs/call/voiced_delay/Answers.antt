-- `calls::call::voiced_delay` meets its contract. Assumes nothing.
use mathlib.Core.Path.{◌≡◌}
use native.Mathlib.Omega.{arith}
use Rattle.std.proofs.lemmas.List.{length-take-le}
use Rattle.steps.specs.Call.{voiced_delay}
use Rattle.calls.proofs.call.voiced_delay.Goals as goal

pub returns : goal.returns
unfolding voiced_delay
returns c =
    let e : c.loop-lag.lag-index ≡ c.args.n = omega (arith, length-take-le c.args.n c.args.lags.now c.requires) in
    rw (← e, ← c.most_delay-d.ensures) c.loop-lag.invariant
