-- `paths::each::noted` meets its contract. Assumes nothing.
use mathlib.Core.Path.{◌≡◌}
use native.Mathlib.Omega.{arith}
use Rattle.steps.specs.Carried.{noted}
use Rattle.paths.proofs.each.noted.Goals as goal

pub returns : goal.returns
unfolding noted
returns c =
    let e : c.loop-k.k ≡ c.args.n = omega arith in
    rw (← e) c.loop-k.invariant.1
