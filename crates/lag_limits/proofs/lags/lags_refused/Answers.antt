-- `lag_limits::lags::lags_refused` meets its contract. Assumes nothing.
use mathlib.Core.Path.{◌≡◌, sym, ◌∙◌}
use lib.IntN.{pos}
use Rattle.fixed.proofs.Fit.{read, lit32, got32}
use Rattle.std.proofs.Common.{rules, tests}
use Rattle.std.proofs.lemmas.Iterator.{YieldsList-from_slice}
use Rattle.std.proofs.lemmas.Iterator.Search.{any_from_yields_List}
use Rattle.limits.specs.Tests.{lags_refused, lag_refused, some_lag, quiet_lag_refused, last_of}
use Rattle.limits.proofs.Anys.{some-any}
use Rattle.limits.proofs.Laws.{same-yes, same-no}
use Rattle.lag_limits.proofs.lags.lags_refused.Goals as goal

pub returns-then-kind-eq2 : goal.returns-then-kind-eq2
unfolding lags_refused some_lag
returns-then-kind-eq2 c =
    let f = c.ranges in
    let lags = c.args.lags.now in
    let l = read f.l in
    rw (same-yes f.kind (lit32 (pos 2) tt) c.if-kind-eq2.true, some-any (lag_refused c.args.l) lags)
    (any_from_yields_List (lag_refused c.args.l) _ _ c.any.result c.any.ensures.ran (YieldsList-from_slice lags cc) (λ x b q k. search (rules, tests)))

pub returns-then-quiet_lag_refused : goal.returns-then-quiet_lag_refused
unfolding lags_refused
returns-then-quiet_lag_refused c =
    let a = c.args in
    let f = c.ranges in
    let e : c.quiet_lag_refused.result ≡ quiet_lag_refused a.l a.lagPrev = rw (read f.l, read f.lagPrev) at c.quiet_lag_refused.ensures in
    rw (same-no f.kind (lit32 (pos 2) tt) c.if-kind-eq2.false, sym e ∙ c.if-quiet_lag_refused.true, c.if-quiet_lag_refused.true)

pub returns-else-quiet_lag_refused : goal.returns-else-quiet_lag_refused
unfolding lags_refused
returns-else-quiet_lag_refused c =
    let a = c.args in
    let f = c.ranges in
    let e : c.quiet_lag_refused.result ≡ quiet_lag_refused a.l a.lagPrev = rw (read f.l, read f.lagPrev) at c.quiet_lag_refused.ensures in
    let g : c.last_of.result ≡ last_of a.lags.now = c.last_of.ensures in
    let h : c.quiet_lag_refused-else-quiet_lag_refused.result ≡ quiet_lag_refused a.l (last_of a.lags.now) =
    rw (read f.l, got32 c.last_of.result c.last_of.type_inv, g) at c.quiet_lag_refused-else-quiet_lag_refused.ensures
    in rw (same-no f.kind (lit32 (pos 2) tt) c.if-kind-eq2.false, sym e ∙ c.if-quiet_lag_refused.false) h
