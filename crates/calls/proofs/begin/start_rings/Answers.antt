-- `calls::begin::start_rings` meets its contract. Assumes nothing.
use Rattle.fixed.proofs.Fit.{read}
use Rattle.steps.specs.Begin.{start_rings}
use Rattle.calls.proofs.begin.start_rings.Goals as goal

pub returns : goal.returns
unfolding start_rings
returns c = rw (read c.ranges.shape, c.zero_ring-none.ensures)
