-- `calls::begin::zero_ring` meets its contract. Assumes nothing.
use Rattle.silk.specs.State.{zeros}
use Rattle.std.proofs.Common.{rules}
use Rattle.calls.proofs.begin.zero_ring.Goals as goal

pub returns : goal.returns
unfolding zeros
returns c = search rules
