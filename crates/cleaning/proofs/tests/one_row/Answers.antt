-- `cleaning::tests::one_row` meets its contract. Assumes nothing.
use mathlib.Core.Path.{refl}
use Rattle.silk.proofs.Told.{settings}
use Rattle.counts.specs.Conditions.{one_row}
use Rattle.cleaning.proofs.Same.{same_back}
use Rattle.cleaning.proofs.tests.one_row.Goals as goal

pub returns : goal.returns
unfolding one_row
returns c =
    let s = c.args.s in
    same_back s.NLSFInterpCoef_Q2 4 (settings s c.struct_told-1.given).NLSFInterpCoef_Q2 refl
