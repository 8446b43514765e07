-- The winner's last D samples handed out at once: in silk_NSQ_del_dec_c of NSQ_del_dec.rs before the second rewhitening, and at the end.
-- Assumes nothing.
use Rattle.std.specs.Prelude.{ℕ, ◌+◌, ◌-◌, ◌%◌, List, [], get_or, set, ℤ, ◌+ℤ◌, eqb}
use Rattle.std.specs.Int.Signed.{lt_z}
use Rattle.fixed.specs.Iter.{iter, either}
use Rattle.fixed.specs.Wrap.{wrap32}
use Rattle.fixed.specs.Shift.{shr32}
use Rattle.noise.specs.Output.{pulse_of, xq_out}
use Rattle.path.specs.declared.structs.Path.{Path}
use Rattle.fixed.specs.Row.{word}
use Rattle.path.specs.Data.{no_path, ring_q, ring_xq, ring_shape}
use Rattle.path.specs.Taken.{penalty}

-- one path more in the search of the least running cost
abbrev pub best_turn : List Path → ℕ → ℕ → ℕ
best_turn o k w = either (lt_z (get_or o k no_path).RD_Q10 (get_or o w no_path).RD_Q10) k w

-- Winner_ind: the path of least running cost, the lowest on ties
unfoldable pub best_of : List Path → ℕ → ℕ
best_of o n = iter (best_turn o) n 0

-- a history sample of the middle flush: by Gains_Q16[1], a rounded shift by 14
unfoldable pub fit_middle : ℤ → ℤ → ℤ
fit_middle gain v = xq_out v gain 14

-- a history sample of the last flush: by the last gain >> 6, a rounded shift by 8
unfoldable pub fit_last : ℤ → ℤ → ℤ
fit_last gain v = xq_out v (shr32 gain 6) 8

-- the three rows that a flush writes
pub record Outs : Type 0 where
  pub xq : List ℤ
  pub sLTP_shp_Q14 : List ℤ
  pub pulses : List ℤ

-- the three together
abbrev pub outs : List ℤ → List ℤ → List ℤ → Outs
outs xq shp out = record { xq = xq; sLTP_shp_Q14 = shp; pulses = out }

-- sample i of the D: from place r + D - 1 - i of the winner's rings, to place p of the frame; h is where the frame starts in the histories
unfoldable pub flush_at : ℕ → List (List ℤ) → (ℤ → ℤ) → ℕ → ℕ → Outs → Outs
flush_at h ring fit last p t =
    record {
      xq = set t.xq (h + p) (fit (word (get_or ring ring_xq []) last));
      sLTP_shp_Q14 = set t.sLTP_shp_Q14 (h + p) (word (get_or ring ring_shape []) last);
      pulses = set t.pulses p (pulse_of (word (get_or ring ring_q []) last));
    }

-- one sample; g samples of the frame are done, r is smpl_buf_idx
abbrev pub flush_turn : ℕ → List (List ℤ) → (ℤ → ℤ) → ℕ → ℕ → ℕ → ℕ → Outs → Outs
flush_turn h ring fit d g r i t = flush_at h ring fit ((r + d - 1 - i) % 40) (g - d + i) t

-- all D
unfoldable pub flushed : ℕ → List (List ℤ) → (ℤ → ℤ) → ℕ → ℕ → ℕ → Outs → Outs
flushed h ring fit d g r t = iter (flush_turn h ring fit d g r) d t

-- a path with the penalty on its running cost
unfoldable pub raised_path : Path → Path
raised_path p =
    record {
      sAR2_Q14 = p.sAR2_Q14;
      LF_AR_Q14 = p.LF_AR_Q14;
      Diff_Q14 = p.Diff_Q14;
      «Seed» = p.«Seed»;
      «SeedInit» = p.«SeedInit»;
      RD_Q10 = wrap32 (p.RD_Q10 +ℤ penalty);
    }

-- path k with the penalty, unless it is the winner w
unfoldable pub other_path : ℕ → ℕ → Path → Path
other_path w k p = either (eqb k w) p (raised_path p)

-- the same in the list of paths
abbrev pub others_turn : ℕ → ℕ → List Path → List Path
others_turn w k o = set o k (other_path w k (get_or o k no_path))

-- every path but the winner gets the penalty
unfoldable pub others_raised : ℕ → ℕ → List Path → List Path
others_raised w n o = iter (others_turn w) n o
