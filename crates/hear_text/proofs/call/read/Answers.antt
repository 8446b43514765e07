-- `hear_text::call::read` meets its contract. Assumes nothing.
use mathlib.Core.Path.{◌≡◌, refl}
use mathlib.Core.List.{List}
use native.Mathlib.Omega.{arith}
use lib.ListN.{length, get_or}
use lib.IntN.{ℤ, pos}
use mir.Syntax.{w32}
use mir.Val.{SFits}
use Rattle.fixed.proofs.Fit.{read}
use Rattle.std.proofs.Common.{rules}
use Rattle.std.proofs.lemmas.Result.{err_from_is_err_and}
use Rattle.sheet_form.specs.Sections.{triple}
use Rattle.sheet_form.proofs.Fitting.{three}
use Rattle.sheet_form.proofs.Whole.{taken-ok, taken-err, of-taken, on, stop, whole-good, whole-bad}
use Rattle.hear_text.proofs.Parts.{found-took, found-missed, text-fault, text-good}
use Rattle.hear_text.proofs.call.read.Goals as goal

pub returns-in_err-first : goal.returns-in_err-first
returns-in_err-first c =
    let p = err_from_is_err_and c.from_residual.result c.from_residual.ensures.1 in
    rw (p.1, p.2) (text-fault _ _ _ refl (found-missed _ _ c.start.ensures c.in_err-first.ensures))

pub returns-in_err-pulses : goal.returns-in_err-pulses
returns-in_err-pulses c =
    let e1 = found-took _ _ c.start.ensures c.in_ok-first.ensures in
    let t = taken-err 2 _ _ c.in_err-pulses.ensures in
    let p = err_from_is_err_and c.from_residual-in_err-pulses.result c.from_residual-in_err-pulses.ensures.1 in
    rw (p.1, p.2) (text-fault _ _ 2 t.1 (stop e1 t.0))

pub returns-in_err-end : goal.returns-in_err-end
returns-in_err-end c =
    let e1 = found-took _ _ c.start.ensures c.in_ok-first.ensures in
    let e2 = on e1 (taken-ok 2 _ _ _ c.in_ok-pulses.ensures) in
    let p = err_from_is_err_and c.from_residual-in_err-end.result c.from_residual-in_err-end.ensures.1 in
    rw (p.1, p.2) (text-fault _ _ _ refl (whole-bad e2 c.in_err-end.ensures))

pub returns : goal.returns
returns c =
    let e1 = found-took _ _ c.start.ensures c.in_ok-first.ensures in
    let e2 = on e1 (taken-ok 2 _ _ _ c.in_ok-pulses.ensures) in
    let row = c.as_slice-three.result.now in
    let seed : SFits w32 (get_or row 0 (pos 0)) = search rules in
    let kind : SFits w32 (get_or row 1 (pos 0)) = search rules in
    let offset : SFits w32 (get_or row 2 (pos 0)) = search rules in
    rw (read seed, read kind, read offset, c.as_slice-three.ensures.value) (text-good _ _ _ (whole-good e2 c.in_ok-end.ensures))

pub bounds-three-0 : goal.bounds-three-0
bounds-three-0 c =
    let n = of-taken triple 1 (λ (zs : List ℤ). length zs ≡ 3) (λ s t zs e. three s t zs e) _ _ _ c.in_ok-first.ensures in
    rw c.as_slice-three.ensures.value (omega arith)

pub bounds-three-1 : goal.bounds-three-1
bounds-three-1 c =
    let n = of-taken triple 1 (λ (zs : List ℤ). length zs ≡ 3) (λ s t zs e. three s t zs e) _ _ _ c.in_ok-first.ensures in
    rw c.as_slice-three.ensures.value (omega arith)

pub bounds-three-2 : goal.bounds-three-2
bounds-three-2 c =
    let n = of-taken triple 1 (λ (zs : List ℤ). length zs ≡ 3) (λ s t zs e. three s t zs e) _ _ _ c.in_ok-first.ensures in
    rw c.as_slice-three.ensures.value (omega arith)
