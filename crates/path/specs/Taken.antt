-- One path once the choice is made: the penalty of a candidate, and the path after it took one. The end of a sample in
-- silk_noise_shape_quantizer_del_dec of NSQ_del_dec.rs. Assumes nothing.
use Rattle.std.specs.Prelude.{ℕ, ◌+◌, List, [], get_or, set, ℤ, pos, ◌+ℤ◌}
use Rattle.fixed.specs.Wrap.{wrap32}
use Rattle.fixed.specs.Shift.{shl32}
use Rattle.residuals.specs.Residual.{seed_with}
use Rattle.path.specs.declared.structs.Path.{Path}
use Rattle.path.specs.declared.structs.Candidate.{Candidate}
use Rattle.path.specs.Data.{no_path, Paths, paths, ring_rand_state, ring_q, ring_xq, ring_pred, ring_shape, ring_set}

-- ---- the penalty: a path that was another one at the delay
-- 0x7fffffff >> 4
abbrev pub penalty : ℤ
penalty = pos 134217727

-- a candidate with the penalty added
unfoldable pub raised : Candidate → Candidate
raised c =
    record {
      Q_Q10 = c.Q_Q10;
      RD_Q10 = wrap32 (c.RD_Q10 +ℤ penalty);
      xq_Q14 = c.xq_Q14;
      LF_AR_Q14 = c.LF_AR_Q14;
      Diff_Q14 = c.Diff_Q14;
      sLTP_shp_Q14 = c.sLTP_shp_Q14;
      LPC_exc_Q14 = c.LPC_exc_Q14;
    }

-- ---- the path takes a candidate
-- the path's short words; the pulse of the level is added to the seed
unfoldable pub taken_own : Candidate → Path → Path
taken_own c p =
    record {
      sAR2_Q14 = p.sAR2_Q14;
      LF_AR_Q14 = c.LF_AR_Q14;
      Diff_Q14 = c.Diff_Q14;
      «Seed» = seed_with p.«Seed» c.Q_Q10;
      «SeedInit» = p.«SeedInit»;
      RD_Q10 = c.RD_Q10;
    }

-- its rings at place r; RandState takes the seed after the pulse was added
unfoldable pub taken_rings : Candidate → ℕ → ℤ → List (List ℤ) → List (List ℤ)
taken_rings c r seed ring =
    ring_set ring_rand_state r seed
    (ring_set ring_shape r c.sLTP_shp_Q14
    (ring_set ring_pred r (shl32 c.LPC_exc_Q14 1) (ring_set ring_q r c.Q_Q10 (ring_set ring_xq r c.xq_Q14 ring))))

-- a path with all its words
pub record Whole : Type 0 where
  pub own : Path
  pub lpc : List ℤ
  pub ring : List (List ℤ)

-- the three together
abbrev pub whole : Path → List ℤ → List (List ℤ) → Whole
whole o l r = record { own = o; lpc = l; ring = r }

-- path k
abbrev pub path_at : Paths → ℕ → Whole
path_at p k = whole (get_or p.owns k no_path) (get_or p.lpcs k []) (get_or p.rings k [])

-- the paths with another path k
abbrev pub path_set : Paths → ℕ → Whole → Paths
path_set p k w = paths (set p.owns k w.own) (set p.lpcs k w.lpc) (set p.rings k w.ring)

-- path w after its candidate c at sample i of the subframe, ring place r
unfoldable pub taken : Candidate → ℕ → ℕ → Whole → Whole
taken c i r w =
    whole (taken_own c w.own) (set w.lpc (16 + i) c.xq_Q14) (taken_rings c r (taken_own c w.own).«Seed» w.ring)
