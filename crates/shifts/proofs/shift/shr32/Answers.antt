-- `shifts::shift::shr32` meets its contract. Assumes nothing.
use Rattle.fixed.specs.Shift.{shr32, shr}
use Rattle.fixed.proofs.Fit.{fit}
use Rattle.std.proofs.Common.{rules}
use Rattle.shifts.proofs.shift.shr32.Goals as goal

pub returns : goal.returns
unfolding shr32 shr
returns c = search (rules, fit)
