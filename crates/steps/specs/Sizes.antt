-- The lengths of a call's rows. Assumes nothing.
use Rattle.std.specs.Prelude.{List, length, ℤ}
use Rattle.refusal_rules.specs.declared.answer.Sizes.{Sizes}
use Rattle.steps.specs.Call.{Call}

-- how long the rows are of a call with samples x and a row `out` for its pulses
unfoldable pub sizes_of : Call → List ℤ → List ℤ → Sizes
sizes_of c x out =
    record {
      samples = length x;
      pred_coef = length c.PredCoef_Q12;
      ltp_coef = length c.LTPCoef_Q14;
      ar = length c.AR_Q13;
      harm_gain = length c.HarmShapeGain_Q14;
      tilt = length c.Tilt_Q14;
      lf = length c.LF_shp_Q14;
      pulses = length out;
    }
