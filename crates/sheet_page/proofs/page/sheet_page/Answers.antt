-- `sheet_page::page::sheet_page` meets its contract. Assumes nothing.
use mathlib.Core.Path.{ap, ◌∙◌}
use mathlib.Core.List.{List}
use Prim.Native.Nat.{ℕ}
use Rattle.pages.specs.Page.{page, puts}
use Rattle.steps.specs.Among.{keeps_first}
use Rattle.sheet_form.specs.Sections.{reading}
use Rattle.sheet_page.specs.Page.{sheet_page}
use Rattle.sheet_page.proofs.Texts.{page-good, page-fault}
use Rattle.sheet_page.proofs.page.sheet_page.Goals as goal

pub returns-in-Ok : goal.returns-in-Ok
unfolding sheet_page
returns-in-Ok c =
    let a = c.args in
    c.answer_page.ensures ∙ ap (λ (t : List ℕ). puts t (page 0 a.page.now)) (page-good keeps_first (reading a.input.now) _ c.in-Ok.ensures)

pub returns-in-Err : goal.returns-in-Err
unfolding sheet_page
returns-in-Err c =
    let a = c.args in
    c.fault.ensures ∙ ap (λ (t : List ℕ). puts t (page 0 a.page.now)) (page-fault keeps_first (reading a.input.now) _ c.in-Err.ensures)
