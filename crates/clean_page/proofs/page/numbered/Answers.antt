-- `clean_page::page::numbered` meets its contract. Assumes nothing.
use native.Mathlib.Omega.{arith}
use mathlib.Core.Path.{refl, ap, ◌∙◌}
use Rattle.refusal_rules.specs.Code.{code_of}
use Rattle.refusal_rules.proofs.Matched.{code-refused}
use Rattle.sheet_print.specs.Rows.{rows_of}
use Rattle.pages.proofs.Pages.{added_as}
use Rattle.clean_page.proofs.Texts.{accepted-text, refused-text}
use Rattle.clean_page.proofs.page.numbered.Goals as goal

pub returns-in-Ok : goal.returns-in-Ok
returns-in-Ok c =
    let a = c.args in
    added_as (accepted-text 0 _ a.input.now (rows_of a.read.now) (ap code_of c.in-Ok.ensures) refl) c.became.ensures

pub returns-in-Err : goal.returns-in-Err
returns-in-Err c =
    let a = c.args in
    added_as
    (refused-text c.number.result _ a.input.now (rows_of a.read.now) (c.number.ensures ∙ ap code_of c.in-Err.ensures) (λ z. omega (arith, c.number.ensures, code-refused c.in-Err.why)))
    c.refused.ensures
