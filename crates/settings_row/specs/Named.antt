-- The twelve settings by name, in the order of docs/RULES.md. Assumes nothing.
use Rattle.std.specs.Prelude.{List, get_or, ℤ, pos}
use Rattle.silk.specs.declared.structs.Settings.{Settings}

-- the settings in a row of twelve; of a shorter one a word that is not there is 0
unfoldable pub settings_of : List ℤ → Settings
settings_of row =
    record {
      subfr_length = get_or row 0 (pos 0);
      nb_subfr = get_or row 1 (pos 0);
      predictLPCOrder = get_or row 2 (pos 0);
      shapingLPCOrder = get_or row 3 (pos 0);
      nStatesDelayedDecision = get_or row 4 (pos 0);
      warping_Q16 = get_or row 5 (pos 0);
      signalType = get_or row 6 (pos 0);
      quantOffsetType = get_or row 7 (pos 0);
      NLSFInterpCoef_Q2 = get_or row 8 (pos 0);
      Seed = get_or row 9 (pos 0);
      Lambda_Q10 = get_or row 10 (pos 0);
      LTP_scale_Q14 = get_or row 11 (pos 0);
    }
