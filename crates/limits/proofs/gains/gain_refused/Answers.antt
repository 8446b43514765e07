-- `limits::gains::gain_refused` meets its contract. Assumes nothing.
use Rattle.std.proofs.Common.{rules}
use Rattle.limits.specs.Tests.{gain_refused}
use Rattle.limits.proofs.gains.gain_refused.Goals as goal

pub returns : goal.returns
unfolding gain_refused
returns c = search rules
