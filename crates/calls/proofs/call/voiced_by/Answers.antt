-- `calls::call::voiced_by` meets its contract. Assumes nothing.
use lib.IntN.{pos}
use Rattle.fixed.proofs.Fit.{lit32}
use Rattle.limits.proofs.Laws.{same_bits}
use Rattle.steps.specs.Call.{voiced_by}
use Rattle.calls.proofs.call.voiced_by.Goals as goal

pub returns : goal.returns
unfolding voiced_by
returns c = same_bits c.ranges.kind (lit32 (pos 2) tt)
