-- `calls::begin::zero_states` meets its contract. Assumes nothing.
use Rattle.silk.specs.State.{zeros}
use Rattle.steps.specs.Begin.{zero_lpcs, zero_rings}
use Rattle.calls.proofs.begin.zero_states.Goals as goal

pub returns : goal.returns
unfolding zero_lpcs zero_rings zeros
returns c = rw (c.of.ensures, c.zero_path-none.ensures)
