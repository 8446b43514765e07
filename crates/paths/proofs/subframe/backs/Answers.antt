-- `paths::subframe::backs` meets its contract. Assumes nothing.
use mathlib.Core.Path.{◌≡◌}
use native.Mathlib.Omega.{arith}
use Rattle.steps.specs.Subframe.{backs}
use Rattle.paths.proofs.subframe.backs.Goals as goal

pub returns : goal.returns
unfolding backs
returns c =
    let e : c.loop-k.k ≡ c.args.n = omega arith in
    rw (← e) c.loop-k.invariant.1
