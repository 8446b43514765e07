-- `befores::white::rewhitened` meets its contract. Assumes nothing.
use mathlib.Core.Path.{◌≡◌}
use Prim.Native.Nat.{◌+◌, ◌-◌}
use native.Mathlib.Omega.{arith}
use Rattle.steps.specs.Frame.{rewhitened}
use Rattle.befores.proofs.white.rewhitened.Goals as goal

pub returns : goal.returns
unfolding rewhitened
returns c =
    let a = c.args in
    let e : a.from + a.m - a.from ≡ a.m = omega arith in
    rw (rw e at c.silk_LPC_analysis_filter.ensures)
