-- `calls::call::lowered` meets its contract. Assumes nothing.
use native.Mathlib.Omega.{arith}
use Rattle.steps.specs.Call.{lowered}
use Rattle.calls.proofs.call.lowered.Goals as goal

pub returns : goal.returns
unfolding lowered
returns c = omega (arith, c)
