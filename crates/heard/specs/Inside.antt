-- What the quantiser has at each sample of a call, read off the run of the definition (`steps`, specs/Frame.antt). Words are named as in the Rust.
-- That the run of `outcome` does pass through these frames is proved (proofs/Passes.antt). Assumes nothing.
use Rattle.std.specs.Prelude.{ℕ, suc, List, get_or, ℤ}
use Rattle.fixed.specs.Iter.{iter}
use Rattle.fixed.specs.Row.{word}
use Rattle.seeds.specs.Generator.{rand}
use Rattle.residuals.specs.Residual.{signed_excitation}
use Rattle.path.specs.Data.{no_path, Running, ring_q, ring_at}
use Rattle.steps.specs.Among.{Rule}
use Rattle.steps.specs.Turn.{turn}
use Rattle.steps.specs.Call.{Call, second, rewhites, fix_of, rows_of, white_gain}
use Rattle.steps.specs.Frame.{Framed, start, before, subframe_turn}

-- subframe k just before its samples: the flush, the rewhitening and the change of gain are done, where there are any
abbrev pub opened : Call → ℕ → Framed → Running
opened c k t =
    (before (second c k) (rewhites c k) (fix_of c k) (rows_of c k).a (word c.Gains_Q16 1) (white_gain c k) t.prev_gain_Q16 t.run t.sLTP).run

-- the frame in work before sample i of subframe k: k whole subframes, subframe k opened, and i of its samples
unfoldable pub at_sample : Rule → Call → List ℤ → List ℤ → ℕ → ℕ → Running
at_sample rule c x out k i =
    iter (turn rule (fix_of c k) (rows_of c k) x) i (opened c k (iter (subframe_turn rule c x) k (start c out)))

-- Seed of the first path
abbrev pub seed_in : Running → ℤ
seed_in t = (get_or t.core.ps.owns 0 no_path).«Seed»

-- Q_Q10 of the first path at smpl_buf_idx: the level that it took at the sample coded last
abbrev pub level_in : Running → ℤ
level_in t = ring_at t.core.ps.rings 0 ring_q t.core.smpl_buf_idx

-- exc_Q14 at sample i of subframe k: the level that was taken there, in Q14, with the sign of the generator's step there. The Rust steps Seed first,
-- so the sign is that of the stepped seed
unfoldable pub used_at : Rule → Call → List ℤ → List ℤ → ℕ → ℕ → ℤ
used_at rule c x out k i = signed_excitation (rand (seed_in (at_sample rule c x out k i))) (level_in (at_sample rule c x out k (suc i)))
