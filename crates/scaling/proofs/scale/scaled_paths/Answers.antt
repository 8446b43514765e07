-- `scaling::scale::scaled_paths` meets its contract. Assumes nothing.
use mathlib.Core.Path.{◌≡◌}
use native.Mathlib.Omega.{arith}
use Rattle.fixed.proofs.Fit.{read}
use Rattle.steps.specs.Scale.{scaled_paths}
use Rattle.scaling.proofs.scale.scaled_paths.Goals as goal

pub returns : goal.returns
unfolding scaled_paths
returns c =
    let e : c.loop-k.k ≡ c.args.n = omega arith in
    rw (← e) (simp (read c.ranges.adj) at c.loop-k.invariant.1)
