-- `cleaning::tests::voiced` meets its contract. Assumes nothing.
use mathlib.Core.Path.{refl}
use Rattle.silk.proofs.Told.{settings}
use Rattle.steps.specs.Call.{voiced_by}
use Rattle.counts.specs.Conditions.{voiced}
use Rattle.cleaning.proofs.Same.{same_back}
use Rattle.cleaning.proofs.tests.voiced.Goals as goal

pub returns : goal.returns
unfolding voiced voiced_by
returns c =
    let s = c.args.s in
    same_back s.signalType 2 (settings s c.struct_told-1.given).signalType refl
