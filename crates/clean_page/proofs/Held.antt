-- A sheet as the code holds it, cleaned: six of its rows are copied, cleaned and put into the new one. Assumes nothing.
use Prim.Native.Nat.{ℕ, ◌-◌}
use mathlib.Core.Path.{◌≡◌, refl, sym, ap, ◌∙◌}
use mathlib.Core.List.{List, ◌++◌}
use lib.ListN.{length, replicate, take, drop}
use lib.Seq.{take-append_seam}
use lib.IntN.{ℤ, pos}
use Rattle.silk.specs.State.{fresh_state}
use Rattle.settings_row.specs.Named.{settings_of}
use Rattle.steps.specs.Call.{Call, call_of}
use Rattle.sheet_form.specs.Rows.{filled}
use Rattle.sheet_form.specs.declared.sheet.Sheet.{Sheet}
use Rattle.sheet_print.specs.Rows.{rows_of}
use Rattle.sheet_page.specs.Calls.{sheet_call}
use Rattle.cleaning.specs.Cleaned.{cleaned}
use Rattle.clean_page.specs.Sheets.{sections_of, cleaned_rows}

-- the numbers of a row, cut out of its words
pub cut : (row w : List ℤ) (n : ℕ) → w ≡ filled (pos 0) row → n ≡ length row → take n w ≡ row
cut row w n e l = rw (e, l) (take-append_seam row (replicate (320 - length row) (pos 0)))

-- .. and what came back in their place
pub put-back : (row w left new : List ℤ) (n m : ℕ) → new ≡ take m (left ++ drop n w) → w ≡ filled (pos 0) row → n ≡ length row → m ≡ length row → length left ≡ length (take n w)
    → new ≡ left
put-back row w left new n m f e l k h =
    let long : length left ≡ length row = h ∙ ap length (cut row w n e l) in
    f ∙ ap (λ (j : ℕ). take j (left ++ drop n w)) (k ∙ sym long) ∙ take-append_seam left (drop n w)

-- ---- the sheet
-- the call of the copies is the sheet's
pub lent-clean : (read : Sheet) (pred ltp ar harm tilt lags : List ℤ)
    → pred ≡ read.pred_coef.items
    → ltp ≡ read.ltp_coef.items
    → ar ≡ read.ar.items
    → harm ≡ read.harm_gains.items
    → tilt ≡ read.tilts.items
    → lags ≡ read.lags.items
    → cleaned (call_of read.settings fresh_state pred ltp ar harm tilt read.lfs.items read.gains.items lags) ≡ cleaned (sheet_call (rows_of read))
unfolding sheet_call rows_of settings_of
lent-clean read pred ltp ar harm tilt lags e1 e2 e3 e4 e5 e6 = ap cleaned (rw (e1, e2, e3, e4, e5, e6) refl)

-- the sections of what a sheet holds
rows_are : (s : Sheet)
    → rows_of s
    ≡ sections_of
    (call_of s.settings fresh_state s.pred_coef.items s.ltp_coef.items s.ar.items s.harm_gains.items s.tilts.items s.lfs.items s.gains.items s.lags.items)
    s.samples.items
unfolding rows_of sections_of
rows_are s = refl

sections-are : (read : Sheet) → sections_of (cleaned (sheet_call (rows_of read))) read.samples.items ≡ cleaned_rows (rows_of read)
unfolding cleaned_rows rows_of
sections-are read = refl

-- a sheet that holds the cleaned call, and of the sheet that was read the samples, the LFs and the gains, holds its cleaned sections
pub held-clean : (read new : Sheet) (pred ltp ar harm tilt lags : List ℤ)
    → call_of new.settings fresh_state pred ltp ar harm tilt read.lfs.items read.gains.items lags ≡ cleaned (sheet_call (rows_of read))
    → new.samples.items ≡ read.samples.items
    → new.pred_coef.items ≡ pred
    → new.ltp_coef.items ≡ ltp
    → new.ar.items ≡ ar
    → new.harm_gains.items ≡ harm
    → new.tilts.items ≡ tilt
    → new.lfs.items ≡ read.lfs.items
    → new.gains.items ≡ read.gains.items
    → new.lags.items ≡ lags
    → rows_of new ≡ cleaned_rows (rows_of read)
held-clean read new pred ltp ar harm tilt lags e e1 e2 e3 e4 e5 e6 e7 e8 e9 =
    held ∙ ap (λ (c : Call). sections_of c read.samples.items) e ∙ sections-are read
  where
    held : rows_of new ≡ sections_of (call_of new.settings fresh_state pred ltp ar harm tilt read.lfs.items read.gains.items lags) read.samples.items
    held = rw (← e1, ← e2, ← e3, ← e4, ← e5, ← e6, ← e7, ← e8, ← e9) (rows_are new)
