-- `calls::begin::zero_path` meets its contract. Assumes nothing.
use Rattle.silk.specs.State.{zeros}
use Rattle.steps.specs.Begin.{zero_path}
use Rattle.std.proofs.Common.{rules}
use Rattle.calls.proofs.begin.zero_path.Goals as goal

pub returns : goal.returns
unfolding zero_path zeros
returns c = search rules
