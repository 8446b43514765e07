-- The samples of a subframe: silk_noise_shape_quantizer_del_dec of NSQ_del_dec.rs. Assumes nothing.
use Rattle.std.specs.Prelude.{ℕ, ◌+◌, List, [], get_or, set, ℤ}
use Rattle.fixed.specs.Iter.{iter}
use Rattle.path.specs.declared.structs.Fix.{Fix}
use Rattle.fixed.specs.Row.{word}
use Rattle.path.specs.Data.{paths, Running, Rows}
use Rattle.steps.specs.Among.{Rule}
use Rattle.steps.specs.Turn.{turn}

-- ---- after the samples the last 16 LPC words of each path move to its front
-- word j
abbrev pub back_turn : ℕ → ℕ → List ℤ → List ℤ
back_turn l j w = set w j (word w (l + j))

-- one path's words
unfoldable pub backed : ℕ → List ℤ → List ℤ
backed l w = iter (back_turn l) 16 w

-- path k
abbrev pub backs_turn : ℕ → ℕ → List (List ℤ) → List (List ℤ)
backs_turn l k lpcs = set lpcs k (backed l (get_or lpcs k []))

-- n paths
unfoldable pub backs : ℕ → ℕ → List (List ℤ) → List (List ℤ)
backs l n lpcs = iter (backs_turn l) n lpcs

-- the paths with other LPC words
abbrev pub with_lpcs : Running → List (List ℤ) → Running
with_lpcs t lpcs =
    record {
      core =
          record {
            ps = paths t.core.ps.owns lpcs t.core.ps.rings;
            sLTP_Q15 = t.core.sLTP_Q15;
            delayedGain_Q10 = t.core.delayedGain_Q10;
            smpl_buf_idx = t.core.smpl_buf_idx;
          };
      xq = t.xq;
      sLTP_shp_Q14 = t.sLTP_shp_Q14;
      pulses = t.pulses;
    }

-- the last 16 LPC words of each path at its front
unfoldable pub move_back : Fix → Running → Running
move_back f t = with_lpcs t (backs f.subfr_length f.«nStates» t.core.ps.lpcs)

-- the whole subframe
unfoldable pub subframe : Rule → Fix → Rows → List ℤ → Running → Running
subframe rule f v x t = move_back f (iter (turn rule f v x) f.subfr_length t)
