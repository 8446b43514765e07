-- `setting_limits::settings::kinds_refused` meets its contract. Assumes nothing.
use mathlib.Core.Path.{◌≡◌, sym, ◌∙◌}
use mathlib.Core.Bool.{◌||◌}
use lib.IntN.{pos}
use Rattle.fixed.proofs.Fit.{read}
use Rattle.limits.specs.Tests.{kinds_refused, outside}
use Rattle.limits.proofs.Laws.{or-then, or-else}
use Rattle.setting_limits.proofs.settings.kinds_refused.Goals as goal
use Rattle.setting_limits.proofs.settings.kinds_refused.Goals.{then-outside, else-outside, then-outside-2, else-outside-2}

pub returns-then-outside-3 : goal.returns-then-outside-3
unfolding kinds_refused
returns-then-outside-3 c =
    let a = c.args in
    let f = c.ranges in
    let e : c.outside.result ≡ outside (pos 0) (pos 2) a.kind = rw (read f.kind) at c.outside.ensures in
    let two : c.if-outside.value ≡ (outside (pos 0) (pos 2) a.kind || outside (pos 0) (pos 1) a.offset) =
    elim c.if-outside.branch [
      | then-outside w ↦ or-then _ (w.value-is ∙ e) (sym e ∙ w.if-outside.true)
      | else-outside w ↦ or-else (sym e ∙ w.if-outside.false) (w.value-is ∙ (rw (read f.offset) at w.outside-else-outside.ensures))
    ] in
    let three : c.if-outside-2.value ≡ (outside (pos 0) (pos 2) a.kind || outside (pos 0) (pos 1) a.offset || outside (pos 0) (pos 4) a.interp) =
    elim c.if-outside-2.branch [
      | then-outside-2 w ↦ or-then _ (w.value-is ∙ two) (sym two ∙ w.if-outside-2.true)
      | else-outside-2 w ↦ or-else (sym two ∙ w.if-outside-2.false) (w.value-is ∙ (rw (read f.interp) at w.outside-else-outside-2.ensures))
    ] in
    or-then _ three (sym three ∙ c.if-outside-3.true)

pub returns-else-outside-3 : goal.returns-else-outside-3
unfolding kinds_refused
returns-else-outside-3 c =
    let a = c.args in
    let f = c.ranges in
    let e : c.outside.result ≡ outside (pos 0) (pos 2) a.kind = rw (read f.kind) at c.outside.ensures in
    let two : c.if-outside.value ≡ (outside (pos 0) (pos 2) a.kind || outside (pos 0) (pos 1) a.offset) =
    elim c.if-outside.branch [
      | then-outside w ↦ or-then _ (w.value-is ∙ e) (sym e ∙ w.if-outside.true)
      | else-outside w ↦ or-else (sym e ∙ w.if-outside.false) (w.value-is ∙ (rw (read f.offset) at w.outside-else-outside.ensures))
    ] in
    let three : c.if-outside-2.value ≡ (outside (pos 0) (pos 2) a.kind || outside (pos 0) (pos 1) a.offset || outside (pos 0) (pos 4) a.interp) =
    elim c.if-outside-2.branch [
      | then-outside-2 w ↦ or-then _ (w.value-is ∙ two) (sym two ∙ w.if-outside-2.true)
      | else-outside-2 w ↦ or-else (sym two ∙ w.if-outside-2.false) (w.value-is ∙ (rw (read f.interp) at w.outside-else-outside-2.ensures))
    ] in
    or-else (sym three ∙ c.if-outside-3.false) (rw (read f.seed) at c.outside-else-outside-3.ensures)
