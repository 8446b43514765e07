-- `silk::structs::NsqState::fresh` meets its contract. Assumes nothing.
use mathlib.Core.Path.{refl}
use Rattle.silk.specs.State.{fresh_state, fresh_lag, zeros}
use Rattle.silk.proofs.structs.NsqState.fresh.Goals as goal

pub returns : goal.returns
unfolding fresh_state fresh_lag zeros
returns c = refl
