-- `cleaning::tests::row_zero_only` meets its contract. Assumes nothing.
use mathlib.Core.Path.{◌≡◌, refl, sym, ◌∙◌}
use mathlib.Core.Bool.{true, false}
use lib.IntN.{pos}
use Rattle.limits.specs.Count.{same_z}
use Rattle.counts.specs.Conditions.{row_zero_only}
use Rattle.cleaning.proofs.tests.row_zero_only.Goals as goal

pub returns-then-two : goal.returns-then-two
unfolding row_zero_only
returns-then-two c =
    let s = c.args.s in
    let t : same_z s.nb_subfr (pos 2) ≡ true = sym c.two.ensures ∙ c.if-two.true in
    rw (t, ← c.one_row.ensures) refl

pub returns-else-two : goal.returns-else-two
unfolding row_zero_only
returns-else-two c =
    let s = c.args.s in
    let t : same_z s.nb_subfr (pos 2) ≡ false = sym c.two.ensures ∙ c.if-two.false in
    rw t c.if-two.false
