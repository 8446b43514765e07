-- `clean_page::lines::line` meets its contract. Assumes nothing.
use mathlib.Core.Path.{◌≡◌, refl, sym, ap, ◌∙◌}
use mathlib.Core.Bool.{Bool, true, false}
use lib.IntN.{ℤ}
use mir.Syntax.{w64}
use mir.Val.{SFits}
use Rattle.limits.specs.Count.{same_z}
use Rattle.limits.proofs.Laws.{same_true}
use Rattle.pages.proofs.Pages.{added_none, added_as}
use Rattle.clean_page.proofs.Printed.{stays-text, changed-text, same-64, other-64}
use Rattle.clean_page.proofs.lines.line.Goals as goal

-- it is one test whichever of the two numbers stands first in the code
turned : (a b : ℤ) → same_z a b ≡ same_z b a
turned a b = go (same_z a b) (same_z b a) refl refl
  where
    go : (t u : Bool) → same_z a b ≡ t → same_z b a ≡ u → same_z a b ≡ same_z b a
    go true true e f = e ∙ sym f
    go false false e f = e ∙ sym f
    go true false e f = let k = same_true a b e in ap (λ (z : ℤ). same_z a z) (sym k) ∙ ap (λ (z : ℤ). same_z z a) k
    go false true e f = let k = same_true b a f in ap (λ (z : ℤ). same_z a z) k ∙ ap (λ (z : ℤ). same_z z a) (sym k)

pub returns-then-value : goal.returns-then-value
returns-then-value g c =
    let a = c.args in
    let q = other-64 c.value.result c.value-2.result c.if-value.true in
    let e : same_z (g.T.Number.value a.old) (g.T.Number.value a.new) ≡ false = cc (q, turned c.value.result c.value-2.result) in
    added_as (changed-text a.section a.place (g.T.Number.value a.old) (g.T.Number.value a.new) e) c.change.ensures

pub returns-else-value : goal.returns-else-value
returns-else-value g c =
    let a = c.args in
    let u : SFits w64 c.value.result = record { sfits = c.value.type_inv } in
    let v : SFits w64 c.value-2.result = record { sfits = c.value-2.type_inv } in
    let q = same-64 c.value.result c.value-2.result u v c.if-value.false in
    let e : same_z (g.T.Number.value a.old) (g.T.Number.value a.new) ≡ true = cc (q, turned c.value.result c.value-2.result) in
    added_as (stays-text a.section a.place (g.T.Number.value a.old) (g.T.Number.value a.new) e) (added_none _)
