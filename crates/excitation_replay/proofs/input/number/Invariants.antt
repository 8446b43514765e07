-- `excitation_replay::input::number` meets its contract. Assumes nothing.
use Rattle.std.proofs.Common.{◌<◌}
use Rattle.excitation_replay.proofs.input.number.Given as goal

abbrev pub invariant-loop : goal.invariant-loop
invariant-loop l = l.v < 1099511627776
