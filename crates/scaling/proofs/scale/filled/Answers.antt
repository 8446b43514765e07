-- `scaling::scale::filled` meets its contract. Assumes nothing.
use mathlib.Core.Path.{◌≡◌}
use native.Mathlib.Omega.{arith}
use Rattle.fixed.proofs.Fit.{read}
use Rattle.steps.specs.Scale.{filled}
use Rattle.scaling.proofs.scale.filled.Goals as goal

pub returns : goal.returns
unfolding filled
returns c =
    let e : c.loop-j.j ≡ c.args.m = omega arith in
    rw (← e) (simp (read c.ranges.inv) at c.loop-j.invariant.1)
