-- `cleaning::tests::no_lag` meets its contract. Assumes nothing.
use mathlib.Core.Path.{◌≡◌, refl, sym, ap, ◌∙◌}
use mathlib.Core.Bool.{true, false, not}
use Rattle.fixed.proofs.Fit.{read}
use Rattle.counts.specs.Conditions.{voiced, no_lag}
use Rattle.cleaning.proofs.Same.{same_back}
use Rattle.cleaning.proofs.tests.no_lag.Goals as goal

pub returns-then-not-voiced : goal.returns-then-not-voiced
unfolding no_lag
returns-then-not-voiced c =
    let a = c.args in
    let t : voiced a.s ≡ false = sym c.voiced.ensures ∙ c.if-not-voiced.true in
    rw t (same_back a.lagPrev 0 (read c.ranges.lagPrev) refl)

pub returns-else-not-voiced : goal.returns-else-not-voiced
unfolding no_lag
returns-else-not-voiced c =
    let s = c.args.s in
    let t : voiced s ≡ true = sym c.voiced.ensures ∙ c.if-not-voiced.false in
    rw t (ap not c.if-not-voiced.false)
