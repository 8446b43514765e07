-- `calls::begin::start_own` meets its contract. Assumes nothing.
use Prim.Native.Nat.{◌+◌, ◌%◌, ◌<◌, ◌^◌}
use native.Mathlib.Omega.{arith}
use mir.Syntax.{w32}
use mir.Facts.{to_z_pos}
use Rattle.fixed.proofs.Fit.{read}
use Rattle.steps.specs.Begin.{own_from}
use Rattle.calls.proofs.begin.start_own.Goals as goal

pub returns : goal.returns
unfolding own_from
returns c =
    let a = c.args in
    let few : (a.k + a.seed) % 4 < 2 ^ 31 = omega arith in
    rw (read c.ranges.lf, read c.ranges.diff, to_z_pos w32 few)
