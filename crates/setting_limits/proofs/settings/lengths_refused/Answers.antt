-- `setting_limits::settings::lengths_refused` meets its contract. Assumes nothing.
use mathlib.Core.Path.{◌≡◌, sym, ◌∙◌}
use Rattle.fixed.proofs.Fit.{read}
use Rattle.limits.specs.Tests.{lengths_refused, length_allowed, count_allowed}
use Rattle.setting_limits.proofs.settings.lengths_refused.Goals as goal

pub returns-then-not-length_allowed : goal.returns-then-not-length_allowed
unfolding lengths_refused
returns-then-not-length_allowed c =
    let e : c.length_allowed.result ≡ length_allowed c.args.l = rw (read c.ranges.l) at c.length_allowed.ensures in
    rw (sym e ∙ c.if-not-length_allowed.true, c.if-not-length_allowed.true)

pub returns-else-not-length_allowed : goal.returns-else-not-length_allowed
unfolding lengths_refused
returns-else-not-length_allowed c =
    let a = c.args in
    let f = c.ranges in
    let e : c.length_allowed.result ≡ length_allowed a.l = rw (read f.l) at c.length_allowed.ensures in
    let g : c.count_allowed.result ≡ count_allowed a.n = rw (read f.n) at c.count_allowed.ensures in
    rw (sym e ∙ c.if-not-length_allowed.false, g)
