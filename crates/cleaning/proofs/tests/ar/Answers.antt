-- `cleaning::tests::ar` meets its contract. Assumes nothing.
use Prim.Native.Nat.{◌%◌}
use Rattle.silk.proofs.Told.{settings}
use Rattle.cleaning.specs.Cleaned.{ar_counts}
use Rattle.cleaning.proofs.Same.{below-back}
use Rattle.cleaning.proofs.tests.ar.Goals as goal

pub returns : goal.returns
unfolding ar_counts
returns c =
    let a = c.args in
    below-back (a.i % 24) a.s.shapingLPCOrder (settings a.s c.struct_told-1.given).shapingLPCOrder c.below.ensures
