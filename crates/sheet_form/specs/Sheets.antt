-- A sheet as the code holds it: the settings by name, and nine rows.
-- Assumes nothing.
use Rattle.std.specs.Prelude.{ℕ, List, [], length, get_or, ℤ, pos, nat_abs, ltb, eqb, Result, Ok, Err}
use Rattle.sheet_form.specs.Rows.{Words}
use Rattle.fixed.specs.Iter.{either}
use Rattle.silk.specs.declared.structs.Settings.{Settings}
use Rattle.settings_row.specs.Named.{settings_of}
use Rattle.sheet_form.specs.Sections.{Reading, fault, sheet, ended}
use Rattle.sheet_form.specs.declared.fault.Fault.{Fault}
use Rattle.sheet_form.specs.declared.sheet.Sheet.{Sheet}

-- the row of these numbers
abbrev pub row : List ℤ → Words ℤ
row zs = record { items = zs }

-- the sections of a sheet by name, in their order; a section that is not there is empty
unfoldable pub sheet_with : List (List ℤ) → Sheet
sheet_with rows =
    record {
      settings = settings_of (get_or rows 0 []);
      samples = row (get_or rows 1 []);
      pred_coef = row (get_or rows 2 []);
      ltp_coef = row (get_or rows 3 []);
      ar = row (get_or rows 4 []);
      harm_gains = row (get_or rows 5 []);
      tilts = row (get_or rows 6 []);
      lfs = row (get_or rows 7 []);
      gains = row (get_or rows 8 []);
      lags = row (get_or rows 9 []);
    }

-- the sheet that was read, or its fault
unfoldable pub sheet_of : Reading → Result Sheet Fault
sheet_of (sheet rows) = Ok (sheet_with rows)
sheet_of (fault k) = Err (record { number = k })

-- what is left at the start: all bytes, or fault 0 where they are too many
unfoldable pub start_rest : List ℕ → Result (List ℕ) ℕ
start_rest s = either (ltb 65536 (length s)) (Err 0) (Ok s)

-- what is found after the last section, where words that follow are fault k; a fault that was met is handed on
abbrev pub end_of : ℕ → Result (List ℕ) ℕ → Reading
end_of k (Ok s) = ended k s
end_of k (Err j) = fault j

-- an end as a reading: good, with no section after it
abbrev pub verdict_of : Result (Unit {0}) Fault → Reading
verdict_of (Ok u) = sheet []
verdict_of (Err f) = fault f.number

-- the path count that 0 stands for
unfoldable pub default_paths : ℤ
default_paths = pos 2

-- the path count that a sheet's number stands for
unfoldable pub paths_of : ℤ → ℤ
paths_of z = either (eqb (nat_abs z) 0) default_paths z

-- the settings with that path count, and all else as it was
unfoldable pub with_default : Settings → Settings
with_default s =
    record {
      subfr_length = s.subfr_length;
      nb_subfr = s.nb_subfr;
      predictLPCOrder = s.predictLPCOrder;
      shapingLPCOrder = s.shapingLPCOrder;
      nStatesDelayedDecision = paths_of s.nStatesDelayedDecision;
      warping_Q16 = s.warping_Q16;
      signalType = s.signalType;
      quantOffsetType = s.quantOffsetType;
      NLSFInterpCoef_Q2 = s.NLSFInterpCoef_Q2;
      Seed = s.Seed;
      Lambda_Q10 = s.Lambda_Q10;
      LTP_scale_Q14 = s.LTP_scale_Q14;
    }
