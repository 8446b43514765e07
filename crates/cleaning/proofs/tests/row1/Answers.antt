-- `cleaning::tests::row1` meets its contract. Assumes nothing.
use Prim.Native.Nat.{◌-◌}
use mathlib.Core.Path.{◌≡◌, refl, sym, ap, ◌∙◌}
use mathlib.Core.Bool.{true, false, not}
use borrow.Author.Tests.{lt-leb, le-leb}
use Rattle.silk.proofs.Told.{settings}
use Rattle.counts.specs.Conditions.{row_zero_only}
use Rattle.cleaning.specs.Cleaned.{row1_counts}
use Rattle.cleaning.proofs.Same.{below-back}
use Rattle.cleaning.proofs.tests.row1.Goals as goal

pub returns-then-i-ge16 : goal.returns-then-i-ge16
unfolding row1_counts
returns-then-i-ge16 c =
    let a = c.args in
    let t : row_zero_only a.s ≡ false = sym c.row_zero_only.ensures ∙ c.if-not-row_zero_only.true in
    rw (t, le-leb 16 a.i c.if-i-ge16.true)
    (below-back (a.i - 16) a.s.predictLPCOrder (settings a.s c.struct_told-1.given).predictLPCOrder c.below.ensures)

pub returns-else-i-ge16 : goal.returns-else-i-ge16
unfolding row1_counts
returns-else-i-ge16 c =
    let a = c.args in
    let t : row_zero_only a.s ≡ false = sym c.row_zero_only.ensures ∙ c.if-not-row_zero_only.true in
    rw (t, lt-leb 16 a.i c.if-i-ge16.false) refl

pub returns-else-not-row_zero_only : goal.returns-else-not-row_zero_only
unfolding row1_counts
returns-else-not-row_zero_only c =
    let s = c.args.s in
    let t : row_zero_only s ≡ true = sym c.row_zero_only.ensures ∙ c.if-not-row_zero_only.false in
    rw t (ap not c.if-not-row_zero_only.false)
