-- `setting_limits::settings::length_allowed` meets its contract. Assumes nothing.
use mathlib.Core.Logic.{⊎_elim}
use lib.IntN.{pos}
use borrow.Author.Tests.{eq-eqb}
use Rattle.fixed.proofs.Fit.{lit32}
use Rattle.limits.specs.Tests.{length_allowed}
use Rattle.limits.proofs.Laws.{same-yes, same-no, same_bits}
use Rattle.setting_limits.proofs.settings.length_allowed.Goals as goal
use Rattle.setting_limits.proofs.settings.length_allowed.Goals.{then-l-eq40, else-l-eq40}

pub returns-then-l-eq60 : goal.returns-then-l-eq60
unfolding length_allowed
returns-then-l-eq60 c =
    let f = c.ranges.l in
    elim c.if-l-eq40.branch [
      | then-l-eq40 w ↦ rw (w.t-3-is, eq-eqb _ _ w.if-l-eq40.true, same-yes f (lit32 (pos 40) tt) w.if-l-eq40.true)
      | else-l-eq40 w ↦ rw (w.t-3-is, same-no f (lit32 (pos 40) tt) w.if-l-eq40.false)
          (⊎_elim (λ h. absurd (w.if-l-eq40.false h)) (λ h. rw (eq-eqb _ _ h.1, same-yes f (lit32 (pos 60) tt) h.1)) c.if-l-eq60.either)
    ]

pub returns-else-l-eq60 : goal.returns-else-l-eq60
unfolding length_allowed
returns-else-l-eq60 c =
    let f = c.ranges.l in
    rw (same-no f (lit32 (pos 40) tt) c.if-l-eq60.false.0, same-no f (lit32 (pos 60) tt) c.if-l-eq60.false.1) (same_bits f (lit32 (pos 80) tt))
