-- `sheet_form::section::numbers` meets its contract. Assumes nothing.
use mathlib.Core.Path.{◌≡◌, sym, ap, ◌∙◌}
use Prim.Native.Nat.{◌+◌, ◌-◌}
use native.Mathlib.Omega.{arith}
use mathlib.Core.List.{[], ◌∷◌, ◌++◌}
use Prim.Native.Nat.{ℕ}
use Rattle.sheet_words.specs.Number.{Range, number}
use lib.ListN.{drop}
use mir.Syntax.{w64}
use mir.Val.{SFits}
use Rattle.fixed.proofs.Fit.{read}
use Rattle.sheet_form.proofs.Numbers.{numbers_more, numbers-bad, numbers-done, number-range, length-more}
use Rattle.std.proofs.Common.{rules}
use Rattle.sheet_form.proofs.section.numbers.Goals as goal

pub returns-in_err-z : goal.returns-in_err-z
returns-in_err-z g c =
    let a = c.args in
    let words = g.R.Row.words in
    let rest = drop c.loop-i.place a.text.now in
    let i = c.loop-i.i in
    let e = ap (λ (r : Range). number r rest) (sym c.bounds-bounds.ensures) ∙ sym c.in_err-z.ensures in
    rw c.from_residual.ensures (sym (c.loop-i.invariant.1 ∙ numbers-bad words (a.count - i) (a.count - (i + 1)) rest (g.R.Row.numbers c.loop-i.row) (omega arith) e))

pub add-requires-clause-fits : goal.add-requires-clause-fits
add-requires-clause-fits g c =
    let a = c.args in
    let rest = drop c.loop-i.place a.text.now in
    let z : SFits w64 c.in_ok-z.z = search rules in
    let e = ap (λ (r : Range). number r rest) (sym c.bounds-bounds.ensures) ∙ sym c.in_ok-z.ensures in
    rw (read z) (number-range g.R.Row.words rest (drop c.in_ok-z.next a.text.now) c.in_ok-z.z e)

pub loop-i-preserved : goal.loop-i-preserved
loop-i-preserved g c =
    let a = c.args in
    let words = g.R.Row.words in
    let rest = drop c.loop-i.place a.text.now in
    let more = drop c.in_ok-z.next a.text.now in
    let i = c.loop-i.i in
    let row = g.R.Row.numbers c.loop-i.row in
    let z : SFits w64 c.in_ok-z.z = search rules in
    let e = ap (λ (r : Range). number r rest) (sym c.bounds-bounds.ensures) ∙ sym c.in_ok-z.ensures in
    let f : g.R.Row.numbers c.add.new.self ≡ row ++ (c.in_ok-z.z ∷ []) = rw (read z) at c.add.ensures in
    rw f (
      length-more row c.in_ok-z.z ∙ ap (λ (n : ℕ). n + 1) c.loop-i.invariant.0,
      c.loop-i.invariant.1 ∙ numbers_more words (a.count - i) (a.count - (i + 1)) rest more c.in_ok-z.z row (omega arith) e,
    )

pub returns : goal.returns
returns g c =
    let a = c.args in
    let rest = drop c.loop-i.place a.text.now in
    sym (c.loop-i.invariant.1 ∙ numbers-done g.R.Row.words (a.count - c.loop-i.i) rest (g.R.Row.numbers c.loop-i.row) (omega arith))
