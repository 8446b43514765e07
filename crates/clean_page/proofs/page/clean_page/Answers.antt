-- `clean_page::page::clean_page` meets its contract. Assumes nothing.
use mathlib.Core.Path.{refl, ap, ◌∙◌}
use mathlib.Core.List.{List}
use Prim.Native.Nat.{ℕ}
use Rattle.pages.specs.Page.{page, puts}
use Rattle.sheet_form.specs.Sections.{reading}
use Rattle.clean_page.specs.Text.{clean_text}
use Rattle.clean_page.proofs.Texts.{text-good, text-fault}
use Rattle.std.proofs.Common.{rules}
use Rattle.clean_page.proofs.page.clean_page.Goals as goal

pub returns-in-Ok : goal.returns-in-Ok
unfolding clean_text
returns-in-Ok c =
    let s = c.args.input.now in
    let e = text-good s (reading s) _ refl c.in-Ok.ensures in
    rw (← e) (search rules)

pub returns-in-Err : goal.returns-in-Err
unfolding clean_text
returns-in-Err c =
    let a = c.args in
    c.fault.ensures ∙ ap (λ (t : List ℕ). puts t (page 0 a.page.now)) (text-fault a.input.now (reading a.input.now) _ c.in-Err.ensures)
