-- `cleaning::rows::harm` meets its contract. Assumes nothing.
use mathlib.Core.Path.{◌≡◌, sym, ap, ◌∙◌}
use mathlib.Core.Bool.{true, false, not}
use Rattle.fixed.proofs.Fit.{read}
use Rattle.counts.specs.Conditions.{no_lag}
use Rattle.cleaning.specs.Cleaned.{harm_counts}
use Rattle.cleaning.proofs.Places.{kept-all}
use Rattle.cleaning.proofs.Loops.{none-kept}
use Rattle.cleaning.proofs.rows.harm.Goals as goal

pub returns-then-no_lag : goal.returns-then-no_lag
unfolding harm_counts
returns-then-no_lag c =
    let a = c.args in
    let e : c.no_lag.result ≡ no_lag a.s a.lagPrev = rw (read c.ranges.lagPrev) at c.no_lag.ensures in
    let t : no_lag a.s a.lagPrev ≡ true = sym e ∙ c.if-no_lag.true in
    c.fill.ensures.after (λ y e. e) ∙ none-kept (harm_counts a.s a.lagPrev) a.row.now (λ j. ap not t)

pub returns-else-no_lag : goal.returns-else-no_lag
unfolding harm_counts
returns-else-no_lag c =
    let a = c.args in
    let e : c.no_lag.result ≡ no_lag a.s a.lagPrev = rw (read c.ranges.lagPrev) at c.no_lag.ensures in
    let t : no_lag a.s a.lagPrev ≡ false = sym e ∙ c.if-no_lag.false in
    kept-all (harm_counts a.s a.lagPrev) a.row.now (λ j. ap not t)
