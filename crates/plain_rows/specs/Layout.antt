-- A state as plain rows: which word stands where. A state is a row of 640 samples and
-- a row of 767 words: 640 shaping words, 96 LPC words, 24 shaping filter words, and seven that stand alone. Assumes nothing.
use Rattle.std.specs.Prelude.{List, [], ◌∷◌, ◌++◌, take, drop, ℤ}
use Rattle.silk.specs.declared.structs.NsqState.{NsqState}
use Rattle.fixed.specs.Row.{word}

-- the state in a row of 640 samples and one of 767 words
unfoldable pub state_of : List ℤ → List ℤ → NsqState
state_of samples words =
    record {
      xq = samples;
      sLTP_shp_Q14 = take 640 words;
      sLPC_Q14 = take 96 (drop 640 words);
      sAR2_Q14 = take 24 (drop 736 words);
      sLF_AR_shp_Q14 = word words 760;
      sDiff_shp_Q14 = word words 761;
      lagPrev = word words 762;
      sLTP_buf_idx = word words 763;
      sLTP_shp_buf_idx = word words 764;
      prev_gain_Q16 = word words 765;
      rewhite_flag = word words 766;
    }

-- the seven words of a state that stand alone
unfoldable pub scalars_of : NsqState → List ℤ
scalars_of z =
    z.sLF_AR_shp_Q14
    ∷ z.sDiff_shp_Q14
    ∷ z.lagPrev
    ∷ z.sLTP_buf_idx
    ∷ z.sLTP_shp_buf_idx
    ∷ z.prev_gain_Q16
    ∷ z.rewhite_flag
    ∷ []

-- all words of a state in a row: `state_of` reads them back
unfoldable pub words_of : NsqState → List ℤ
words_of z = ((z.sLTP_shp_Q14 ++ z.sLPC_Q14) ++ z.sAR2_Q14) ++ scalars_of z
