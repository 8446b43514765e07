-- `nsq::entry::sizes` meets its contract. Assumes nothing.
use mathlib.Core.Path.{refl}
use Rattle.steps.specs.Sizes.{sizes_of}
use Rattle.nsq.proofs.entry.sizes.Goals as goal

pub returns : goal.returns
unfolding sizes_of
returns c = λ s state gains lags. refl
