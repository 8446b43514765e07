-- `clean_page::lines::row_lines` meets its contract. Assumes nothing.
use Prim.Native.Nat.{ℕ}
use mathlib.Core.Path.{sym, ap}
use mathlib.Core.List.{[]}
use native.Mathlib.Omega.{arith}
use Rattle.pages.proofs.Pages.{added_none, added_then, added_as}
use Rattle.cleaning.specs.Changes.{listed, changes_in}
use Rattle.clean_page.specs.Text.{changes_text}
use Rattle.clean_page.proofs.Printed.{rows-more, rows-done}
use Rattle.clean_page.proofs.lines.row_lines.Goals as goal

pub loop-i-init : goal.loop-i-init
unfolding changes_in changes_text
loop-i-init g c = added_none _

pub loop-i-preserved : goal.loop-i-preserved
loop-i-preserved g c =
    let a = c.args in
    let l = c.loop-i in
    let x = c.index-old-i in
    let y = c.index-new-i in
    let n = c.min-i-end.ensures in
    let t = c.loop-i-test.true in
    added_as (sym (rows-more g.T.Number.value a.section l.i a.old.now a.new.now x.result y.result (omega arith) (omega arith) x.is y.is))
    (added_then _ _ l.invariant (added_as (ap (λ (k : ℕ). changes_text (listed a.section k (g.T.Number.value x.result) (g.T.Number.value y.result) [])) (omega arith)) c.line.ensures))

pub returns : goal.returns
returns g c =
    let a = c.args in
    let l = c.loop-i in
    let n = c.min-i-end.ensures in
    added_as (ap changes_text (rows-done g.T.Number.value a.section 1 l.i a.old.now a.new.now (omega arith))) l.invariant
