-- `sheet_page::page::told` meets its contract. Assumes nothing.
use mathlib.Core.Path.{◌≡◌, refl, ap, ◌∙◌}
use mathlib.Core.List.{List}
use Prim.Native.Nat.{ℕ}
use mir.Syntax.{w32}
use mir.Val.{to_z, of_z}
use Rattle.refusal_rules.specs.Code.{Accepted}
use Rattle.std.proofs.Common.{rules}
use Rattle.pages.specs.Page.{page, puts}
use Rattle.sheet_page.proofs.Texts.{text_of, refused_text}
use Rattle.sheet_page.proofs.page.told.Goals as goal

pub returns-in-Ok : goal.returns-in-Ok
returns-in-Ok c =
    let a = c.args in
    let seed : to_z w32 (of_z w32 c.in-Ok.coded.seed) ≡ c.in-Ok.coded.seed = search rules in
    c.answer.ensures ∙ ap (λ (s : List ℕ). puts s (page 0 a.page.now)) (text_of _ Accepted _ _ _ _ _ refl seed c.in-Ok.ensures.outcome)

pub returns-in-Err : goal.returns-in-Err
returns-in-Err c =
    let a = c.args in
    c.answer-in-Err.ensures ∙ ap (λ (s : List ℕ). puts s (page 0 a.page.now)) (refused_text _ c.in-Err.refused.why _ _ _ _ _ c.number.ensures c.in-Err.ensures.outcome)
