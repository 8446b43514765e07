-- `penalty::penalties::penalised` meets its contract. Assumes nothing.
use mathlib.Core.Path.{◌≡◌}
use native.Mathlib.Omega.{arith}
use Rattle.penalty.specs.Penalty.{penalised}
use Rattle.penalty.proofs.penalties.penalised.Goals as goal

pub returns : goal.returns
unfolding penalised
returns c =
    let e : c.loop-k.k ≡ c.args.n = omega arith in
    rw (← e) c.loop-k.invariant.1
