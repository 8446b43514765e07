-- One path at one sample, up to its two candidates: silk_noise_shape_quantizer_del_dec of NSQ_del_dec.rs, the body of its loop over the paths,
-- from the generator's step to the second candidate's words. Its terms are those of the crates `shaping`, `warped`, `residuals` and `choice`.
-- Assumes nothing.
use Rattle.std.specs.Prelude.{ℕ, ◌+◌, List, [], ◌∷◌, get_or, ℤ, ◌+ℤ◌, ◌-ℤ◌}
use Rattle.fixed.specs.Wrap.{wrap32, wrap16}
use Rattle.fixed.specs.Shift.{shl32}
use Rattle.seeds.specs.Generator.{rand}
use Rattle.shaping.specs.Taps.{short_prediction}
use Rattle.warped.specs.WarpedFilter.{Filter, warped_filter}
use Rattle.noise.specs.NoiseTerms.{ar_term, lf_term}
use Rattle.noise.specs.Residual.{residual}
use Rattle.choice.specs.declared.candidate.Choice.{Choice}
use Rattle.residuals.specs.Residual.{signed_residual, signed_excitation}
use Rattle.choice.specs.RustChoice.{choice}
use Rattle.path.specs.declared.structs.Path.{Path}
use Rattle.path.specs.declared.structs.Candidate.{Candidate}
use Rattle.path.specs.declared.structs.Fix.{Fix}
use Rattle.path.specs.declared.structs.Halves.{Halves}
use Rattle.path.specs.declared.structs.Common.{Common}
use Rattle.path.specs.declared.structs.Terms.{Terms}
use Rattle.path.specs.declared.structs.Moved.{Moved}
use Rattle.fixed.specs.Row.{word}
use Rattle.path.specs.Data.{ring_shape}

-- ---- the generator and the warped filter move on
-- the path with the next seed and the filter words w
abbrev pub moved_own : Path → List ℤ → Path
moved_own p w =
    record {
      sAR2_Q14 = w;
      LF_AR_Q14 = p.LF_AR_Q14;
      Diff_Q14 = p.Diff_Q14;
      «Seed» = rand p.«Seed»;
      «SeedInit» = p.«SeedInit»;
      RD_Q10 = p.RD_Q10;
    }

-- the filter of path p, with the coefficients ar and the low half of the warping
abbrev pub filter_of : Fix → Halves → List ℤ → Path → Filter
filter_of f h ar p = warped_filter p.sAR2_Q14 ar f.«shapingLPCOrder» (wrap16 h.warping_Q16) p.Diff_Q14

-- the path moved on, and n_AR_Q14
unfoldable pub moved : Fix → Halves → List ℤ → Path → Moved
moved f h ar p =
    record {
      own = moved_own p (filter_of f h ar p).sAR2_Q14;
      n_AR_Q14 = ar_term (filter_of f h ar p).n_AR_Q14 p.LF_AR_Q14 h.Tilt_Q14;
    }

-- ---- a candidate from its level and its total cost, `psSS[..]`
-- LPC_exc_Q14: the excitation with the seed's sign, and the long-term prediction
abbrev pub exc_of : Terms → ℤ → ℤ
exc_of t q = wrap32 (signed_excitation t.«Seed» q +ℤ t.LTP_pred_Q14)

-- xq_Q14
abbrev pub xq_of : Terms → ℤ → ℤ
xq_of t q = wrap32 (exc_of t q +ℤ t.LPC_pred_Q14)

-- Diff_Q14
abbrev pub diff_of : Terms → ℤ → ℤ
diff_of t q = wrap32 (xq_of t q -ℤ shl32 t.x_Q10 4)

-- sLF_AR_shp_Q14
abbrev pub lf_of : Terms → ℤ → ℤ
lf_of t q = wrap32 (diff_of t q -ℤ t.n_AR_Q14)

-- the seven words
unfoldable pub candidate_of : Terms → ℤ → ℤ → Candidate
candidate_of t q rd =
    record {
      Q_Q10 = q;
      RD_Q10 = rd;
      xq_Q14 = xq_of t q;
      LF_AR_Q14 = lf_of t q;
      Diff_Q14 = diff_of t q;
      sLTP_shp_Q14 = wrap32 (lf_of t q -ℤ t.n_LF_Q14);
      LPC_exc_Q14 = exc_of t q;
    }

-- ---- the two candidates of a path that has moved on
-- i the sample's place in its subframe, r0 the ring's place before this sample
unfoldable pub terms_of : Fix → List ℤ → Common → ℕ → ℕ → Path → ℤ → List ℤ → List (List ℤ) → Terms
terms_of f a s i r0 p nAR lpc ring =
    record {
      x_Q10 = s.x_Q10;
      LTP_pred_Q14 = s.LTP_pred_Q14;
      LPC_pred_Q14 = shl32 (short_prediction lpc (15 + i) a f.«predictLPCOrder») 4;
      n_AR_Q14 = nAR;
      n_LF_Q14 = lf_term (word (get_or ring ring_shape []) r0) p.LF_AR_Q14 f.LF_shp_Q14;
      «Seed» = p.«Seed»;
    }

-- r_Q10: the residual, with the seed's sign and in its range
unfoldable pub residual_of : Terms → ℤ → ℤ
residual_of t nLTP = signed_residual t.«Seed» (residual t.n_AR_Q14 t.n_LF_Q14 nLTP t.LPC_pred_Q14 t.x_Q10)

-- the chosen levels with their totals, the path's running cost rd and their own
unfoldable pub pair_from : Terms → ℤ → Choice → List Candidate
pair_from t rd c =
    candidate_of t c.first_level (wrap32 (rd +ℤ c.first_cost)) ∷ candidate_of t c.second_level (wrap32 (rd +ℤ c.second_cost)) ∷ []

-- both candidates from the terms
unfoldable pub pair_of : Fix → ℤ → ℤ → Terms → List Candidate
pair_of f nLTP rd t = pair_from t rd (choice (residual_of t nLTP) f.Lambda_Q10 f.offset_Q10)

-- both candidates of one path
unfoldable pub pair : Fix → List ℤ → Common → ℕ → ℕ → Path → ℤ → List ℤ → List (List ℤ) → List Candidate
pair f a s i r0 p nAR lpc ring = pair_of f s.n_LTP_Q14 p.RD_Q10 (terms_of f a s i r0 p nAR lpc ring)
