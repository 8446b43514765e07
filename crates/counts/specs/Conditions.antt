-- The four conditions on which it depends what counts: docs/RULES.md, "What counts". Each is one test. `Agree` asks for what counts where the test says
-- so, and cleaning (`cleaning:cleaned`) clears by the same test what doesn't count. Assumes nothing.
use Rattle.std.specs.Prelude.{Bool, not, ◌&&◌, ℤ, pos}
use Rattle.silk.specs.declared.structs.Settings.{Settings}
use Rattle.limits.specs.Count.{same_z}
use Rattle.steps.specs.Call.{voiced_by}

-- a frame of type 2
unfoldable pub voiced : Settings → Bool
voiced s = voiced_by s.signalType

-- interpolation 4: one row of prediction coefficients for all subframes
unfoldable pub one_row : Settings → Bool
one_row s = same_z s.NLSFInterpCoef_Q2 (pos 4)

-- n is 2 and interpolation is not 4: row 1 is not reached
unfoldable pub row_zero_only : Settings → Bool
row_zero_only s = same_z s.nb_subfr (pos 2) && not (one_row s)

-- not voiced, and no lag from the frame before
unfoldable pub no_lag : Settings → ℤ → Bool
no_lag s lagPrev = not (voiced s) && same_z lagPrev (pos 0)
