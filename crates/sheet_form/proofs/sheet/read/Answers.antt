-- `sheet_form::sheet::read` meets its contract. Assumes nothing.
use mathlib.Core.Path.{◌≡◌, refl}
use mathlib.Core.List.{List}
use native.Mathlib.Omega.{arith}
use lib.ListN.{length}
use lib.IntN.{ℤ}
use Rattle.std.proofs.lemmas.Result.{err_from_is_err_and}
use Rattle.sheet_form.proofs.Fitting.{twelve}
use Rattle.sheet_form.specs.Sections.{settings}
use Rattle.sheet_form.specs.Sheets.{sheet_of, sheet_with}
use Rattle.sheet_form.proofs.Whole.{taken-ok, taken-err, start-took, start-missed, of-taken, on, stop, whole-good, whole-bad, as-fault}
use Rattle.sheet_form.proofs.sheet.read.Goals as goal

pub returns-in_err-first : goal.returns-in_err-first
returns-in_err-first c =
    let p = err_from_is_err_and c.from_residual.result c.from_residual.ensures.1 in
    rw (p.1, p.2) (as-fault _ _ _ refl (start-missed _ _ c.start.ensures c.in_err-first.ensures))

pub returns-in_err-samples : goal.returns-in_err-samples
returns-in_err-samples c =
    let e1 = start-took _ _ c.start.ensures c.in_ok-first.ensures in
    let t = taken-err 2 _ _ c.in_err-samples.ensures in
    let p = err_from_is_err_and c.from_residual-in_err-samples.result c.from_residual-in_err-samples.ensures.1 in
    rw (p.1, p.2) (as-fault _ _ 2 t.1 (stop e1 t.0))

pub returns-in_err-pred_coef : goal.returns-in_err-pred_coef
returns-in_err-pred_coef c =
    let e1 = start-took _ _ c.start.ensures c.in_ok-first.ensures in
    let e2 = on e1 (taken-ok 2 _ _ _ c.in_ok-samples.ensures) in
    let t = taken-err 3 _ _ c.in_err-pred_coef.ensures in
    let p = err_from_is_err_and c.from_residual-in_err-pred_coef.result c.from_residual-in_err-pred_coef.ensures.1 in
    rw (p.1, p.2) (as-fault _ _ 3 t.1 (stop e2 t.0))

pub returns-in_err-ltp_coef : goal.returns-in_err-ltp_coef
returns-in_err-ltp_coef c =
    let e1 = start-took _ _ c.start.ensures c.in_ok-first.ensures in
    let e2 = on e1 (taken-ok 2 _ _ _ c.in_ok-samples.ensures) in
    let e3 = on e2 (taken-ok 3 _ _ _ c.in_ok-pred_coef.ensures) in
    let t = taken-err 4 _ _ c.in_err-ltp_coef.ensures in
    let p = err_from_is_err_and c.from_residual-in_err-ltp_coef.result c.from_residual-in_err-ltp_coef.ensures.1 in
    rw (p.1, p.2) (as-fault _ _ 4 t.1 (stop e3 t.0))

pub returns-in_err-ar : goal.returns-in_err-ar
returns-in_err-ar c =
    let e1 = start-took _ _ c.start.ensures c.in_ok-first.ensures in
    let e2 = on e1 (taken-ok 2 _ _ _ c.in_ok-samples.ensures) in
    let e3 = on e2 (taken-ok 3 _ _ _ c.in_ok-pred_coef.ensures) in
    let e4 = on e3 (taken-ok 4 _ _ _ c.in_ok-ltp_coef.ensures) in
    let t = taken-err 5 _ _ c.in_err-ar.ensures in
    let p = err_from_is_err_and c.from_residual-in_err-ar.result c.from_residual-in_err-ar.ensures.1 in
    rw (p.1, p.2) (as-fault _ _ 5 t.1 (stop e4 t.0))

pub returns-in_err-harm_gains : goal.returns-in_err-harm_gains
returns-in_err-harm_gains c =
    let e1 = start-took _ _ c.start.ensures c.in_ok-first.ensures in
    let e2 = on e1 (taken-ok 2 _ _ _ c.in_ok-samples.ensures) in
    let e3 = on e2 (taken-ok 3 _ _ _ c.in_ok-pred_coef.ensures) in
    let e4 = on e3 (taken-ok 4 _ _ _ c.in_ok-ltp_coef.ensures) in
    let e5 = on e4 (taken-ok 5 _ _ _ c.in_ok-ar.ensures) in
    let t = taken-err 6 _ _ c.in_err-harm_gains.ensures in
    let p = err_from_is_err_and c.from_residual-in_err-harm_gains.result c.from_residual-in_err-harm_gains.ensures.1 in
    rw (p.1, p.2) (as-fault _ _ 6 t.1 (stop e5 t.0))

pub returns-in_err-tilts : goal.returns-in_err-tilts
returns-in_err-tilts c =
    let e1 = start-took _ _ c.start.ensures c.in_ok-first.ensures in
    let e2 = on e1 (taken-ok 2 _ _ _ c.in_ok-samples.ensures) in
    let e3 = on e2 (taken-ok 3 _ _ _ c.in_ok-pred_coef.ensures) in
    let e4 = on e3 (taken-ok 4 _ _ _ c.in_ok-ltp_coef.ensures) in
    let e5 = on e4 (taken-ok 5 _ _ _ c.in_ok-ar.ensures) in
    let e6 = on e5 (taken-ok 6 _ _ _ c.in_ok-harm_gains.ensures) in
    let t = taken-err 7 _ _ c.in_err-tilts.ensures in
    let p = err_from_is_err_and c.from_residual-in_err-tilts.result c.from_residual-in_err-tilts.ensures.1 in
    rw (p.1, p.2) (as-fault _ _ 7 t.1 (stop e6 t.0))

pub returns-in_err-lfs : goal.returns-in_err-lfs
returns-in_err-lfs c =
    let e1 = start-took _ _ c.start.ensures c.in_ok-first.ensures in
    let e2 = on e1 (taken-ok 2 _ _ _ c.in_ok-samples.ensures) in
    let e3 = on e2 (taken-ok 3 _ _ _ c.in_ok-pred_coef.ensures) in
    let e4 = on e3 (taken-ok 4 _ _ _ c.in_ok-ltp_coef.ensures) in
    let e5 = on e4 (taken-ok 5 _ _ _ c.in_ok-ar.ensures) in
    let e6 = on e5 (taken-ok 6 _ _ _ c.in_ok-harm_gains.ensures) in
    let e7 = on e6 (taken-ok 7 _ _ _ c.in_ok-tilts.ensures) in
    let t = taken-err 8 _ _ c.in_err-lfs.ensures in
    let p = err_from_is_err_and c.from_residual-in_err-lfs.result c.from_residual-in_err-lfs.ensures.1 in
    rw (p.1, p.2) (as-fault _ _ 8 t.1 (stop e7 t.0))

pub returns-in_err-gains : goal.returns-in_err-gains
returns-in_err-gains c =
    let e1 = start-took _ _ c.start.ensures c.in_ok-first.ensures in
    let e2 = on e1 (taken-ok 2 _ _ _ c.in_ok-samples.ensures) in
    let e3 = on e2 (taken-ok 3 _ _ _ c.in_ok-pred_coef.ensures) in
    let e4 = on e3 (taken-ok 4 _ _ _ c.in_ok-ltp_coef.ensures) in
    let e5 = on e4 (taken-ok 5 _ _ _ c.in_ok-ar.ensures) in
    let e6 = on e5 (taken-ok 6 _ _ _ c.in_ok-harm_gains.ensures) in
    let e7 = on e6 (taken-ok 7 _ _ _ c.in_ok-tilts.ensures) in
    let e8 = on e7 (taken-ok 8 _ _ _ c.in_ok-lfs.ensures) in
    let t = taken-err 9 _ _ c.in_err-gains.ensures in
    let p = err_from_is_err_and c.from_residual-in_err-gains.result c.from_residual-in_err-gains.ensures.1 in
    rw (p.1, p.2) (as-fault _ _ 9 t.1 (stop e8 t.0))

pub returns-in_err-lags : goal.returns-in_err-lags
returns-in_err-lags c =
    let e1 = start-took _ _ c.start.ensures c.in_ok-first.ensures in
    let e2 = on e1 (taken-ok 2 _ _ _ c.in_ok-samples.ensures) in
    let e3 = on e2 (taken-ok 3 _ _ _ c.in_ok-pred_coef.ensures) in
    let e4 = on e3 (taken-ok 4 _ _ _ c.in_ok-ltp_coef.ensures) in
    let e5 = on e4 (taken-ok 5 _ _ _ c.in_ok-ar.ensures) in
    let e6 = on e5 (taken-ok 6 _ _ _ c.in_ok-harm_gains.ensures) in
    let e7 = on e6 (taken-ok 7 _ _ _ c.in_ok-tilts.ensures) in
    let e8 = on e7 (taken-ok 8 _ _ _ c.in_ok-lfs.ensures) in
    let e9 = on e8 (taken-ok 9 _ _ _ c.in_ok-gains.ensures) in
    let t = taken-err 10 _ _ c.in_err-lags.ensures in
    let p = err_from_is_err_and c.from_residual-in_err-lags.result c.from_residual-in_err-lags.ensures.1 in
    rw (p.1, p.2) (as-fault _ _ 10 t.1 (stop e9 t.0))

pub returns-in_err-end : goal.returns-in_err-end
returns-in_err-end c =
    let e1 = start-took _ _ c.start.ensures c.in_ok-first.ensures in
    let e2 = on e1 (taken-ok 2 _ _ _ c.in_ok-samples.ensures) in
    let e3 = on e2 (taken-ok 3 _ _ _ c.in_ok-pred_coef.ensures) in
    let e4 = on e3 (taken-ok 4 _ _ _ c.in_ok-ltp_coef.ensures) in
    let e5 = on e4 (taken-ok 5 _ _ _ c.in_ok-ar.ensures) in
    let e6 = on e5 (taken-ok 6 _ _ _ c.in_ok-harm_gains.ensures) in
    let e7 = on e6 (taken-ok 7 _ _ _ c.in_ok-tilts.ensures) in
    let e8 = on e7 (taken-ok 8 _ _ _ c.in_ok-lfs.ensures) in
    let e9 = on e8 (taken-ok 9 _ _ _ c.in_ok-gains.ensures) in
    let e10 = on e9 (taken-ok 10 _ _ _ c.in_ok-lags.ensures) in
    let p = err_from_is_err_and c.from_residual-in_err-end.result c.from_residual-in_err-end.ensures.1 in
    rw (p.1, p.2) (as-fault _ _ _ refl (whole-bad e10 c.in_err-end.ensures))

pub settings_of-requires : goal.settings_of-requires
settings_of-requires c =
    let t = of-taken settings 1 (λ (zs : List ℤ). length zs ≡ 12) (λ s t zs e. twelve s t zs e) _ _ _ c.in_ok-first.ensures in
    rw c.as_slice.ensures.value (omega arith)

pub returns : goal.returns
unfolding sheet_of sheet_with
returns c =
    let e1 = start-took _ _ c.start.ensures c.in_ok-first.ensures in
    let e2 = on e1 (taken-ok 2 _ _ _ c.in_ok-samples.ensures) in
    let e3 = on e2 (taken-ok 3 _ _ _ c.in_ok-pred_coef.ensures) in
    let e4 = on e3 (taken-ok 4 _ _ _ c.in_ok-ltp_coef.ensures) in
    let e5 = on e4 (taken-ok 5 _ _ _ c.in_ok-ar.ensures) in
    let e6 = on e5 (taken-ok 6 _ _ _ c.in_ok-harm_gains.ensures) in
    let e7 = on e6 (taken-ok 7 _ _ _ c.in_ok-tilts.ensures) in
    let e8 = on e7 (taken-ok 8 _ _ _ c.in_ok-lfs.ensures) in
    let e9 = on e8 (taken-ok 9 _ _ _ c.in_ok-gains.ensures) in
    let e10 = on e9 (taken-ok 10 _ _ _ c.in_ok-lags.ensures) in
    rw (whole-good e10 c.in_ok-end.ensures, c.settings_of.ensures, c.as_slice.ensures.value)
