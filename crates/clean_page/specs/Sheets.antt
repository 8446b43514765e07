-- A sheet cleaned: docs/RULES.md, "The program `clean`". Its call starts from a fresh state, so that state's lagPrev decides about the harmonic
-- gains. A path count 0 counts as the number 0 and stays. Assumes nothing.
use Rattle.std.specs.Prelude.{List, [], ◌∷◌, ℤ}
use Rattle.steps.specs.Call.{Call}
use Rattle.sheet_print.specs.Rows.{settings_row}
use Rattle.sheet_page.specs.Calls.{samples_in, sheet_call}
use Rattle.cleaning.specs.Cleaned.{cleaned}

-- the ten sections of a call with samples x
unfoldable pub sections_of : Call → List ℤ → List (List ℤ)
sections_of c x =
    settings_row c.settings
    ∷ x
    ∷ c.PredCoef_Q12
    ∷ c.LTPCoef_Q14
    ∷ c.AR_Q13
    ∷ c.HarmShapeGain_Q14
    ∷ c.Tilt_Q14
    ∷ c.LF_shp_Q14
    ∷ c.Gains_Q16
    ∷ c.pitchL
    ∷ []

-- the sections of a sheet, cleaned
unfoldable pub cleaned_rows : List (List ℤ) → List (List ℤ)
cleaned_rows rows = sections_of (cleaned (sheet_call rows)) (samples_in rows)
