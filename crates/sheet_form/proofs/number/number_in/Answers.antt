-- `sheet_form::number::number_in` meets its contract. Assumes nothing.
use mathlib.Core.Path.{sym, ap, ◌∙◌}
use native.Mathlib.Omega.{arith}
use lib.ListN.{drop, length-drop}
use lib.IntN.{ℤ}
use mir.Syntax.{w64}
use mir.Val.{SFits}
use Rattle.std.specs.Prelude.{Option}
use Rattle.std.proofs.Common.{rules}
use Rattle.fixed.proofs.Fit.{read}
use Rattle.sheet_words.specs.Number.{in_word, in_range, and_rest}
use Rattle.sheet_form.specs.Found.{range}
use Rattle.sheet_words.proofs.Runs.{run-le}
use Rattle.sheet_form.proofs.NextWord.{number-at, number-none}
use Rattle.sheet_form.proofs.number.number_in.Goals as goal

pub returns-then-text-start : goal.returns-then-text-start
returns-then-text-start c =
    let a = c.args in
    sym (number-none a.text.now a.at c.end_of_run-start.result c.end_of_run-start.ensures (range a.bounds) c.if-text-start.true)

pub slice_bounds-number_of-end : goal.slice_bounds-number_of-end
slice_bounds-number_of-end c =
    let a = c.args in
    let s = c.end_of_run-start.result in
    omega (arith, c.end_of_run-end.ensures, run-le in_word (drop s a.text.now), length-drop s a.text.now)

pub returns-in_err-z : goal.returns-in_err-z
unfolding in_range and_rest
returns-in_err-z c =
    let a = c.args in
    let r = range a.bounds in
    let rest = drop c.end_of_run-end.result a.text.now in
    let at = number-at a.text.now a.at c.end_of_run-start.result c.end_of_run-start.ensures r c.end_of_run-end.result c.end_of_run-end.ensures in
    rw c.from_residual.ensures (ap (λ (m : Option ℤ). and_rest (in_range r m) rest) (sym c.in_err-z.was ∙ c.number_of.ensures) ∙ sym at)

pub returns-in_err-within : goal.returns-in_err-within
unfolding in_range and_rest
returns-in_err-within c =
    let a = c.args in
    let r = range a.bounds in
    let rest = drop c.end_of_run-end.result a.text.now in
    let at = number-at a.text.now a.at c.end_of_run-start.result c.end_of_run-start.ensures r c.end_of_run-end.result c.end_of_run-end.ensures in
    let z : SFits w64 c.in_ok-z.z = search rules in
    let e = sym c.in_err-within.was ∙ rw (read z) at c.within.ensures in
    rw c.from_residual-in_err-within.ensures
    (ap (λ (m : Option ℤ). and_rest m rest) e ∙ ap (λ (m : Option ℤ). and_rest (in_range r m) rest) (sym c.in_ok-z.was ∙ c.number_of.ensures) ∙ sym at)

pub returns : goal.returns
unfolding in_range and_rest
returns c =
    let a = c.args in
    let r = range a.bounds in
    let rest = drop c.end_of_run-end.result a.text.now in
    let at = number-at a.text.now a.at c.end_of_run-start.result c.end_of_run-start.ensures r c.end_of_run-end.result c.end_of_run-end.ensures in
    let z : SFits w64 c.in_ok-z.z = search rules in
    let x : SFits w64 c.in_ok-within.field-0 = search rules in
    let e = sym c.in_ok-within.was ∙ rw (read z) at c.within.ensures in
    rw (read x)
    (ap (λ (m : Option ℤ). and_rest m rest) e ∙ ap (λ (m : Option ℤ). and_rest (in_range r m) rest) (sym c.in_ok-z.was ∙ c.number_of.ensures) ∙ sym at)
