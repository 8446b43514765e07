-- `limits::gains::gains_refused` meets its contract. Assumes nothing.
use mathlib.Core.Path.{◌≡◌, sym, ap, ◌∙◌}
use Rattle.fixed.proofs.Fit.{read}
use Rattle.std.proofs.Common.{rules, tests}
use Rattle.std.proofs.lemmas.Iterator.{YieldsList-from_slice}
use Rattle.std.proofs.lemmas.Iterator.Search.{any_from_yields_List}
use Rattle.limits.specs.Tests.{gains_refused, gain_refused, some_gain}
use Rattle.limits.proofs.Anys.{some-any}
use Rattle.limits.proofs.gains.gains_refused.Goals as goal

pub returns-then-gain_refused : goal.returns-then-gain_refused
unfolding gains_refused
returns-then-gain_refused c =
    let e : c.gain_refused.result ≡ gain_refused c.args.prev_gain_Q16 = c.gain_refused.ensures ∙ ap gain_refused (read c.ranges.prev_gain_Q16) in
    rw (sym e ∙ c.if-gain_refused.true, c.if-gain_refused.true)

pub returns-else-gain_refused : goal.returns-else-gain_refused
unfolding gains_refused some_gain
returns-else-gain_refused c =
    let gains = c.args.gains.now in
    let e : c.gain_refused.result ≡ gain_refused c.args.prev_gain_Q16 = c.gain_refused.ensures ∙ ap gain_refused (read c.ranges.prev_gain_Q16) in
    rw (sym e ∙ c.if-gain_refused.false, some-any gain_refused gains)
    (any_from_yields_List gain_refused _ _ c.any.result c.any.ensures.ran (YieldsList-from_slice gains cc) (λ x b q k. search (rules, tests)))
