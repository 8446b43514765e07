-- `sheet_page::page::answer_page` meets its contract. Assumes nothing.
use mathlib.Core.Path.{ap, ◌∙◌}
use mathlib.Core.List.{List}
use Prim.Native.Nat.{ℕ}
use Rattle.pages.specs.Page.{page, puts}
use Rattle.steps.specs.Among.{keeps_first}
use Rattle.sheet_page.proofs.Texts.{lent_row}
use Rattle.sheet_page.proofs.page.answer_page.Goals as goal

pub returns : goal.returns
returns c =
    let a = c.args in
    c.told.ensures
    ∙ ap (λ (s : List ℕ). puts s (page 0 a.page.now)) (lent_row keeps_first a.read.now c.pulse_count-n.result c.zeros8-space.result c.pulse_count-n.ensures c.zeros8-space.ensures)
