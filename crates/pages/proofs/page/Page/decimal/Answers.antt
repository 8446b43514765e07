-- `pages::page::Page::decimal` meets its contract. Assumes nothing.
use mathlib.Core.Path.{ap}
use mir.Syntax.{w64}
use mir.Val.{SFits}
use Rattle.fixed.proofs.Fit.{read}
use Rattle.pages.specs.Decimal.{decimal}
use Rattle.pages.proofs.Signs.{decimal-minus, decimal-plain}
use Rattle.pages.proofs.Pages.{added_then, added_as}
use Rattle.pages.proofs.page.Page.decimal.Goals as goal
use Rattle.pages.proofs.page.Page.decimal.Goals.{then-z-lt0, else-z-lt0}

pub returns : goal.returns
returns g c =
    let z = c.value-z.result in
    let f : SFits w64 z = record { sfits = c.value-z.type_inv } in
    let e = rw (read f) at c.unsigned_abs.ensures.value in
    let d = rw e at c.digits.ensures in
    added_as (ap decimal c.value-z.ensures)
    (elim c.if-z-lt0.branch [
      | then-z-lt0 w ↦ added_as (decimal-minus z (rw (read f) at w.if-z-lt0.true)) (added_then _ _ w.put.ensures (rw w.self-is at d))
      | else-z-lt0 w ↦ added_as (decimal-plain z (rw (read f) at w.if-z-lt0.false)) (rw w.self-is at d)
    ])
