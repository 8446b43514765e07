-- The call that the code makes of a sheet is the call that the definition makes of its sections. Assumes nothing.
use mathlib.Core.Path.{◌≡◌, refl, ap, ◌∙◌}
use Prim.Native.Nat.{ℕ}
use native.Mathlib.Omega.{arith}
use mathlib.Core.List.{List}
use lib.ListN.{length, take}
use lib.Seq.{take_all}
use lib.IntN.{ℤ}
use Rattle.silk.specs.declared.structs.Settings.{Settings}
use Rattle.silk.specs.declared.structs.NsqState.{NsqState}
use Rattle.silk.specs.State.{fresh_state}
use Rattle.settings_row.specs.Named.{settings_of}
use Rattle.refusal_rules.specs.declared.answer.Sizes.{Sizes}
use Rattle.refusal_rules.specs.Table.{answer_of}
use Rattle.steps.specs.Among.{Rule}
use Rattle.steps.specs.Call.{Call, call_of}
use Rattle.steps.specs.Entry.{answered}
use Rattle.steps.specs.Sizes.{sizes_of}
use Rattle.sheet_form.specs.Sheets.{with_default, sheet_with}
use Rattle.sheet_form.specs.declared.sheet.Sheet.{Sheet}
use Rattle.sheet_form.proofs.Numbers.{zeros-length}
use Rattle.sheet_print.specs.Rows.{rows_of}
use Rattle.sheet_page.specs.Calls.{settings_in, samples_in, sheet_call, defaulted, frame_length, pulses_for, sheet_answer, sheet_outcome}

-- the rows that the code lends are the sections, and so is the call of them
pub record Lent (read : Sheet) (c : Call) (x : List ℤ) : Type 0 where
  pub same-call : c ≡ defaulted (sheet_call (rows_of read))
  pub same-samples : x ≡ samples_in (rows_of read)

pub lent-call : (read : Sheet) (s : Settings) (state : NsqState) (x pred ltp ar harm tilt lf gains lags : List ℤ)
    → s ≡ with_default read.settings
    → state ≡ fresh_state
    → x ≡ read.samples.items
    → pred ≡ read.pred_coef.items
    → ltp ≡ read.ltp_coef.items
    → ar ≡ read.ar.items
    → harm ≡ read.harm_gains.items
    → tilt ≡ read.tilts.items
    → lf ≡ read.lfs.items
    → gains ≡ read.gains.items
    → lags ≡ read.lags.items
    → Lent read (call_of s state pred ltp ar harm tilt lf gains lags) x
unfolding defaulted sheet_call rows_of settings_of
lent-call read s state x pred ltp ar harm tilt lf gains lags e1 e2 e3 e4 e5 e6 e7 e8 e9 e10 e11 =
    record { same-call = rw (e1, e2, e4, e5, e6, e7, e8, e9, e10, e11); same-samples = e3 }

-- the first words of a row, as many as it has, are the row: in the edit `count_of_another_row` the code lends a row so
pub whole-row : (n : ℕ) (s t row : List ℤ) → s ≡ take n t → t ≡ row → n ≡ length row → s ≡ row
whole-row n s t row e f h = e ∙ ap (λ (l : List ℤ). take n l) f ∙ take_all n row (omega (arith, h))

-- ---- .. and so are their lengths, and the answer
pub lent-sizes : (read : Sheet) (x pred ltp ar harm tilt lf n : ℕ)
    → x ≡ length read.samples.items
    → pred ≡ length read.pred_coef.items
    → ltp ≡ length read.ltp_coef.items
    → ar ≡ length read.ar.items
    → harm ≡ length read.harm_gains.items
    → tilt ≡ length read.tilts.items
    → lf ≡ length read.lfs.items
    → n ≡ frame_length read.settings
    → ◌≡◌ {A = Sizes}
    (record { samples = x; pred_coef = pred; ltp_coef = ltp; ar = ar; harm_gain = harm; tilt = tilt; lf = lf; pulses = n })
    (sizes_of (defaulted (sheet_call (rows_of read))) (samples_in (rows_of read)) (pulses_for (settings_in (rows_of read))))
unfolding sizes_of defaulted sheet_call rows_of settings_of pulses_for
lent-sizes read x pred ltp ar harm tilt lf n e1 e2 e3 e4 e5 e6 e7 e8 = rw (e1, e2, e3, e4, e5, e6, e7, e8, zeros-length (frame_length read.settings)) refl

pub lent-answer : (read : Sheet) (s : Settings) (z : Sizes) (lag gain : ℤ) (gains lags : List ℤ)
    → s ≡ with_default read.settings
    → z ≡ sizes_of (defaulted (sheet_call (rows_of read))) (samples_in (rows_of read)) (pulses_for (settings_in (rows_of read)))
    → lag ≡ fresh_state.lagPrev
    → gain ≡ fresh_state.prev_gain_Q16
    → gains ≡ read.gains.items
    → lags ≡ read.lags.items
    → answer_of s z lag gain gains lags ≡ sheet_answer (rows_of read)
unfolding sheet_answer answered defaulted sheet_call rows_of settings_of
lent-answer read s z lag gain gains lags e1 e2 e3 e4 e5 e6 = rw (e2, e1, e3, e4, e5, e6) refl

-- ---- a sheet that was read holds its sections
pub held-outcome : (rule : Rule) (rows : List (List ℤ)) → sheet_outcome rule (rows_of (sheet_with rows)) ≡ sheet_outcome rule rows
unfolding sheet_outcome sheet_call rows_of sheet_with settings_of
held-outcome rule rows = refl

-- its settings are the numbers of the first section
pub held-settings : (read : Sheet) → settings_in (rows_of read) ≡ read.settings
unfolding rows_of settings_of
held-settings read = refl
