-- `sheet_form::blank::zeros8` meets its contract. Assumes nothing.
use mathlib.Core.Path.{refl}
use Rattle.silk.specs.State.{zeros}
use Rattle.sheet_form.proofs.blank.zeros8.Goals as goal

pub returns : goal.returns
unfolding zeros
returns c = refl
