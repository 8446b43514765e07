-- `shifts::shift::shl32` meets its contract. Assumes nothing.
use Prim.Native.Nat.{◌%◌, ◌^◌}
use Rattle.fixed.proofs.Wraps as W
use Rattle.fixed.specs.Shift.{shl32}
use Rattle.shifts.proofs.shift.shl32.Goals as goal

pub returns : goal.returns
unfolding shl32
returns c = W.shl32 (2 ^ (c.args.s % 32)) c.ranges.x
