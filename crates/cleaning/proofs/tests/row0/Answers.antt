-- `cleaning::tests::row0` meets its contract. Assumes nothing.
use mathlib.Core.Path.{◌≡◌, sym, ap, ◌∙◌}
use mathlib.Core.Bool.{true, false, not}
use Rattle.silk.proofs.Told.{settings}
use Rattle.counts.specs.Conditions.{one_row}
use Rattle.cleaning.specs.Cleaned.{row0_counts}
use Rattle.cleaning.proofs.Same.{below-back}
use Rattle.cleaning.proofs.tests.row0.Goals as goal

pub returns-then-not-one_row : goal.returns-then-not-one_row
unfolding row0_counts
returns-then-not-one_row c =
    let a = c.args in
    let t : one_row a.s ≡ false = sym c.one_row.ensures ∙ c.if-not-one_row.true in
    rw t (below-back a.i a.s.predictLPCOrder (settings a.s c.struct_told-1.given).predictLPCOrder c.below.ensures)

pub returns-else-not-one_row : goal.returns-else-not-one_row
unfolding row0_counts
returns-else-not-one_row c =
    let s = c.args.s in
    let t : one_row s ≡ true = sym c.one_row.ensures ∙ c.if-not-one_row.false in
    rw t (ap not c.if-not-one_row.false)
