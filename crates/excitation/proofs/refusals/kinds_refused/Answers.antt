-- `excitation::refusals::kinds_refused` meets its contract. Assumes nothing.
use mathlib.Core.Path.{◌≡◌, sym, ◌∙◌}
use lib.IntN.{pos}
use Rattle.fixed.proofs.Fit.{read}
use Rattle.limits.specs.Tests.{outside}
use Rattle.limits.proofs.Laws.{or-then, or-else}
use Rattle.excitation.specs.Refused.{kinds_refused}
use Rattle.excitation.proofs.refusals.kinds_refused.Goals as goal

pub returns-then-outside : goal.returns-then-outside
unfolding kinds_refused
returns-then-outside c =
    let e : c.outside.result ≡ outside (pos 0) (pos 2) c.args.signal_type = rw (read c.ranges.signal_type) at c.outside.ensures in
    or-then _ e (sym e ∙ c.if-outside.true)

pub returns-else-outside : goal.returns-else-outside
unfolding kinds_refused
returns-else-outside c =
    let e : c.outside.result ≡ outside (pos 0) (pos 2) c.args.signal_type = rw (read c.ranges.signal_type) at c.outside.ensures in
    or-else (sym e ∙ c.if-outside.false) (rw (read c.ranges.offset_type) at c.outside-else-outside.ensures)
