-- `setting_limits::settings::orders_refused` meets its contract. Assumes nothing.
use mathlib.Core.Path.{◌≡◌, ap, sym, ◌∙◌}
use mathlib.Core.Bool.{not, ◌||◌}
use lib.IntN.{pos}
use mir.Syntax.{w32}
use mir.Val.{SFits}
use Rattle.fixed.proofs.Fit.{read}
use Rattle.limits.specs.Tests.{orders_refused, order_for, outside}
use Rattle.limits.specs.Count.{same_z}
use Rattle.limits.proofs.Laws.{same-no, same-yes, same_bits, or-then, or-else}
use Rattle.setting_limits.proofs.settings.orders_refused.Goals as goal
use Rattle.setting_limits.proofs.settings.orders_refused.Goals.{then-order-order_for, else-order-order_for}

pub returns-then-outside : goal.returns-then-outside
unfolding orders_refused
returns-then-outside c =
    let a = c.args in
    let f = c.ranges in
    let r : c.order_for.result ≡ order_for a.l = rw (read f.l) at c.order_for.ensures in
    let fits : SFits w32 c.order_for.result = record { sfits = c.order_for.type_inv } in
    let two : c.if-order-order_for.value ≡ (not (same_z a.order (order_for a.l)) || outside (pos 2) (pos 24) a.shaping) =
    rw (← r)
    (elim c.if-order-order_for.branch [
      | then-order-order_for w ↦ or-then _ (w.value-is ∙ ap not (same_bits f.order fits)) (ap not (same-no f.order fits w.if-order-order_for.true))
      | else-order-order_for w ↦ or-else (ap not (same-yes f.order fits w.if-order-order_for.false)) (w.value-is ∙ (rw (read f.shaping) at w.outside.ensures))
    ]) in
    or-then _ two (sym two ∙ c.if-outside.true)

pub returns-else-outside : goal.returns-else-outside
unfolding orders_refused
returns-else-outside c =
    let a = c.args in
    let f = c.ranges in
    let r : c.order_for.result ≡ order_for a.l = rw (read f.l) at c.order_for.ensures in
    let fits : SFits w32 c.order_for.result = record { sfits = c.order_for.type_inv } in
    let two : c.if-order-order_for.value ≡ (not (same_z a.order (order_for a.l)) || outside (pos 2) (pos 24) a.shaping) =
    rw (← r)
    (elim c.if-order-order_for.branch [
      | then-order-order_for w ↦ or-then _ (w.value-is ∙ ap not (same_bits f.order fits)) (ap not (same-no f.order fits w.if-order-order_for.true))
      | else-order-order_for w ↦ or-else (ap not (same-yes f.order fits w.if-order-order_for.false)) (w.value-is ∙ (rw (read f.shaping) at w.outside.ensures))
    ]) in
    or-else (sym two ∙ c.if-outside.false) (rw (read f.shaping) at c.odd.ensures)
