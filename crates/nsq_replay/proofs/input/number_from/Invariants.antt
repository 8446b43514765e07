-- `nsq_replay::input::number_from` meets its contract. Assumes nothing.
use Rattle.std.proofs.Common.{◌<◌}
use Rattle.nsq_replay.proofs.input.number_from.Given as goal

abbrev pub invariant-loop : goal.invariant-loop
invariant-loop l = l.v < 1099511627776
