-- The ten lists of numbers that a sheet holds.
-- Assumes nothing.
use Rattle.std.specs.Prelude.{List, [], ◌∷◌, ◌++◌, ℤ}
use Rattle.silk.specs.declared.structs.Settings.{Settings}
use Rattle.sheet_form.specs.declared.sheet.Sheet.{Sheet}

-- the twelve settings in the order of docs/RULES.md
abbrev pub settings_row : Settings → List ℤ
settings_row s =
    s.subfr_length
    ∷ s.nb_subfr
    ∷ s.predictLPCOrder
    ∷ s.shapingLPCOrder
    ∷ s.nStatesDelayedDecision
    ∷ s.warping_Q16
    ∷ s.signalType
    ∷ s.quantOffsetType
    ∷ s.NLSFInterpCoef_Q2
    ∷ s.Seed
    ∷ s.Lambda_Q10
    ∷ s.LTP_scale_Q14
    ∷ []

-- the four rows of 16-bit words
abbrev pub half_rows : Sheet → List (List ℤ)
half_rows s = s.samples.items ∷ s.pred_coef.items ∷ s.ltp_coef.items ∷ s.ar.items ∷ []

-- the five rows of 32-bit words
abbrev pub whole_rows : Sheet → List (List ℤ)
whole_rows s = s.harm_gains.items ∷ s.tilts.items ∷ s.lfs.items ∷ s.gains.items ∷ s.lags.items ∷ []

-- the ten sections
unfoldable pub rows_of : Sheet → List (List ℤ)
rows_of s = settings_row s.settings ∷ (half_rows s ++ whole_rows s)
