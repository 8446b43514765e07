-- `sheet_print::sheet::row_line` meets its contract. Assumes nothing.
use mathlib.Core.Path.{◌≡◌, sym, ap, ◌∙◌}
use mathlib.Core.List.{List, map}
use Prim.Native.Nat.{ℕ}
use native.Mathlib.Omega.{arith}
use lib.ListN.{length, take}
use lib.Seq.{take_all}
use lib.IntN.{pos}
use Rattle.std.proofs.lemmas.List.{length-map}
use Rattle.pages.specs.Decimal.{decimal}
use Rattle.pages.proofs.Pages.{added_none, added_then, added_as}
use Rattle.sheet_text.specs.Text.{spaced}
use Rattle.sheet_text.proofs.Lines.{digits_decimal, spaced-row, section-added}
use Rattle.sheet_print.proofs.sheet.row_line.Goals as goal

pub loop-x-init : goal.loop-x-init
unfolding spaced
loop-x-init g c = added_none _

pub loop-x-preserved : goal.loop-x-preserved
loop-x-preserved g c =
    let l = c.loop-x in
    let x = c.x-item in
    added_as (sym (spaced-row g.T.Number.value l.x-index c.args.row.now x.result c.loop-x-test.true x.is))
    (added_then _ _ l.invariant (added_then _ _ c.put.ensures c.decimal.ensures))

pub returns : goal.returns
returns g c =
    let row = c.args.row.now in
    let zs = map g.T.Number.value row in
    let n : length row ≡ length zs = sym (length-map row g.T.Number.value) in
    let all : take c.loop-x.x-index row ≡ row = take_all c.loop-x.x-index row (omega arith) in
    section-added zs (added_as (digits_decimal (length row) ∙ ap (λ (k : ℕ). decimal (pos k)) n) c.digits.ensures)
    (added_as (ap (λ (s : List _). spaced (map g.T.Number.value s)) all) c.loop-x.invariant) c.put-2.ensures
