-- `closing::report::differ` meets its contract. Assumes nothing.
use mathlib.Core.Path.{◌≡◌}
use native.Mathlib.Omega.{arith}
use Rattle.steps.specs.Report.{differ}
use Rattle.closing.proofs.report.differ.Goals as goal

pub returns : goal.returns
unfolding differ
returns c =
    let e : c.loop-h.h ≡ c.args.n = omega arith in
    (rw (← e) c.loop-h.invariant.1, omega (arith, c.loop-h.invariant.0))
