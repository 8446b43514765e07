-- `calls::begin::start_paths` meets its contract. Assumes nothing.
use mathlib.Core.Path.{◌≡◌}
use native.Mathlib.Omega.{arith}
use Rattle.fixed.proofs.Fit.{read}
use Rattle.steps.specs.Begin.{begun}
use Rattle.calls.proofs.begin.start_paths.Goals as goal

pub returns : goal.returns
unfolding begun
returns c =
    let e : c.loop-k.k ≡ c.args.n = omega arith in
    let f = rw (e, read c.ranges.lf, read c.ranges.diff, c.start_lpc-row.ensures, c.start_rings-ring.ensures) at c.loop-k.invariant.1 in
    rw (c.zero_path-none.ensures, read c.ranges.shape) at f
