-- `edges::ends::others_raised` meets its contract. Assumes nothing.
use mathlib.Core.Path.{◌≡◌}
use native.Mathlib.Omega.{arith}
use Rattle.steps.specs.Flush.{others_raised}
use Rattle.edges.proofs.ends.others_raised.Goals as goal

pub returns : goal.returns
unfolding others_raised
returns c =
    let e : c.loop-k.k ≡ c.args.n = omega arith in
    rw (← e) c.loop-k.invariant.1
