-- The paths with all their words, and a subframe in work. The records `Path`, `Candidate`, `Fix`, .. are the structs of src/structs.rt.
-- In `NSQ_del_dec_struct` of the Rust each path has its long rows inside; here they stand beside it, as in the code, and are read and written
-- by the names below. Assumes nothing.
use Rattle.std.specs.Prelude.{ℕ, List, [], get_or, set, ℤ, pos}
use Rattle.fixed.specs.Row.{word}
use Rattle.path.specs.declared.structs.Path.{Path}
use Rattle.path.specs.declared.structs.Candidate.{Candidate}
use Rattle.path.specs.declared.structs.Halves.{Halves}
use Rattle.path.specs.declared.structs.States.{States as StatesOf}
use Rattle.path.specs.declared.structs.Work.{Work as WorkOf}
use Rattle.path.specs.declared.structs.Coefs.{Coefs}

-- what `get_or` gives past the end of a list of paths, and of candidates
abbrev pub no_path : Path
no_path =
    record { sAR2_Q14 = []; LF_AR_Q14 = pos 0; Diff_Q14 = pos 0; «Seed» = pos 0; «SeedInit» = pos 0; RD_Q10 = pos 0 }

-- a candidate of zeros
abbrev pub no_candidate : Candidate
no_candidate =
    record {
      Q_Q10 = pos 0;
      RD_Q10 = pos 0;
      xq_Q14 = pos 0;
      LF_AR_Q14 = pos 0;
      Diff_Q14 = pos 0;
      sLTP_shp_Q14 = pos 0;
      LPC_exc_Q14 = pos 0;
    }

-- all paths: their short words, their LPC words, their five rings
pub record Paths : Type 0 where
  pub owns : List Path
  pub lpcs : List (List ℤ)
  pub rings : List (List (List ℤ))

-- the three together
abbrev pub paths : List Path → List (List ℤ) → List (List (List ℤ)) → Paths
paths o l r = record { owns = o; lpcs = l; rings = r }

-- the code's struct of all paths, of its rows
abbrev pub States : Type 0
States = StatesOf (List (List ℤ)) (List (List (List ℤ)))

-- .. and of a subframe in work
abbrev pub Work : Type 0
Work = WorkOf (List (List ℤ))

-- the definition's record of all paths
abbrev pub paths_of : States → Paths
paths_of s = paths s.owns s.lpcs s.rings

-- which of the five rings: RandState, the seed after the sample
abbrev pub ring_rand_state : ℕ
ring_rand_state = 0

-- Q_Q10: the level
abbrev pub ring_q : ℕ
ring_q = 1

-- Xq_Q14: the coded sample
abbrev pub ring_xq : ℕ
ring_xq = 2

-- Pred_Q15: the excitation with its long-term prediction
abbrev pub ring_pred : ℕ
ring_pred = 3

-- Shape_Q14: the shaping word
abbrev pub ring_shape : ℕ
ring_shape = 4

-- place r of ring f of path k
abbrev pub ring_at : List (List (List ℤ)) → ℕ → ℕ → ℕ → ℤ
ring_at rings k f r = word (get_or (get_or rings k []) f []) r

-- x at place r of ring f of one path
abbrev pub ring_set : ℕ → ℕ → ℤ → List (List ℤ) → List (List ℤ)
ring_set f r x ring = set ring f (set (get_or ring f []) r x)

-- candidate m (0 the first, 1 the second) of path k
abbrev pub candidate_at : List (List Candidate) → ℕ → ℕ → Candidate
candidate_at c k m = get_or (get_or c k []) m no_candidate

-- ---- a subframe in work
-- what two calls that count alike have in common: the paths, the work row sLTP_Q15, the delayed gains, and the ring's place smpl_buf_idx
pub record Core : Type 0 where
  pub ps : Paths
  pub sLTP_Q15 : List ℤ
  pub delayedGain_Q10 : List ℤ
  pub smpl_buf_idx : ℕ

-- and beside it the three rows in which they may differ past the delay: history, shaping words, pulses
pub record Running : Type 0 where
  pub core : Core
  pub xq : List ℤ
  pub sLTP_shp_Q14 : List ℤ
  pub pulses : List ℤ

-- a subframe's coefficient rows (prediction, long-term prediction, shaping), and the words of which only a half is read
pub record Rows : Type 0 where
  pub a : List ℤ
  pub b : List ℤ
  pub ar : List ℤ
  pub half : Halves

-- the four together
abbrev pub rows : List ℤ → List ℤ → List ℤ → Halves → Rows
rows a b ar h = record { a = a; b = b; ar = ar; half = h }

-- the code's struct of them
abbrev pub rows_of_coefs : Coefs → Rows
rows_of_coefs v = rows v.a.now v.b.now v.ar.now v.half

-- the code's struct of a subframe in work, with the pulses beside it
abbrev pub running : Work → List ℤ → Running
running w out =
    record {
      core =
          record {
            ps = paths_of w.states;
            sLTP_Q15 = w.sLTP_Q15;
            delayedGain_Q10 = w.delayedGain_Q10;
            smpl_buf_idx = w.smpl_buf_idx;
          };
      xq = w.xq;
      sLTP_shp_Q14 = w.sLTP_shp_Q14;
      pulses = out;
    }
