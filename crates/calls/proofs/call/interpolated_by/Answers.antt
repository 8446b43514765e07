-- `calls::call::interpolated_by` meets its contract. Assumes nothing.
use mathlib.Core.Path.{ap}
use mathlib.Core.Bool.{not}
use lib.IntN.{pos}
use Rattle.fixed.proofs.Fit.{lit32}
use Rattle.limits.proofs.Laws.{same_bits}
use Rattle.steps.specs.Call.{interpolated_by}
use Rattle.calls.proofs.call.interpolated_by.Goals as goal

pub returns : goal.returns
unfolding interpolated_by
returns c = ap not (same_bits c.ranges.interp (lit32 (pos 4) tt))
