-- `paths::each::taken_all` meets its contract. Assumes nothing.
use mathlib.Core.Path.{◌≡◌}
use native.Mathlib.Omega.{arith}
use Rattle.steps.specs.Each.{taken_all}
use Rattle.paths.proofs.each.taken_all.Goals as goal

pub returns : goal.returns
unfolding taken_all
returns c =
    let e : c.loop-k.k ≡ c.args.n = omega arith in
    rw (← e) c.loop-k.invariant.1
