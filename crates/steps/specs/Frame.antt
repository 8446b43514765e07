-- A whole frame: silk_NSQ_del_dec_c of NSQ_del_dec.rs, and docs/RULES.md, "One frame". Assumes nothing.
use Rattle.std.specs.Prelude.{ℕ, ◌+◌, ◌-◌, ◌*◌, Bool, List, [], ◌++◌, get_or, take, drop, replicate, ℤ, pos}
use Rattle.fixed.specs.Iter.{iter, either}
use Rattle.silk.specs.State.{zeros}
use Rattle.silk.specs.declared.structs.NsqState.{NsqState}
use Rattle.word_steps.specs.Gains.{gain_adj_Q16}
use Rattle.word_steps.specs.Filter.{analysis}
use Rattle.path.specs.declared.structs.Path.{Path}
use Rattle.path.specs.declared.structs.Fix.{Fix}
use Rattle.fixed.specs.Row.{word}
use Rattle.path.specs.Data.{no_path, Paths, paths, Running, Rows}
use Rattle.steps.specs.Among.{Rule}
use Rattle.steps.specs.Subframe.{subframe}
use Rattle.steps.specs.Scale.{filled, scaled}
use Rattle.limits.specs.Count.{nat_z, same_z}
use Rattle.steps.specs.declared.structs.Given.{Given}
use Rattle.steps.specs.declared.structs.Prior.{Prior}
use Rattle.steps.specs.Call.{Call, given_of, length_of, count_of, paths_of, since_by, second_by, rewhites_by, fix_by, rows_by, white_by}
use Rattle.steps.specs.Begin.{zero_path, zero_lpcs, zero_rings, begun}
use Rattle.steps.specs.Flush.{best_of, fit_middle, fit_last, Outs, flushed, others_raised}
use Rattle.word_steps.specs.Tail.{moved_down, words_from}

-- a frame in work: what a subframe works on, the filtered history, and the gain of the subframe before
pub record Framed : Type 0 where
  pub run : Running
  pub sLTP : List ℤ
  pub prev_gain_Q16 : ℤ

-- the three together
abbrev pub framed_of : Running → List ℤ → ℤ → Framed
framed_of r row prev = record { run = r; sLTP = row; prev_gain_Q16 = prev }

-- ---- the start
-- all paths of the call begun; the others of the four stay zero
unfoldable pub start_paths : Call → Paths
start_paths c =
    begun c.state.sAR2_Q14 c.state.sLF_AR_shp_Q14 c.state.sDiff_shp_Q14 c.state.sLPC_Q14
    (word c.state.sLTP_shp_Q14 (4 * length_of c - 1))
    (nat_z c.settings.Seed)
    (paths_of c)
    (paths (replicate 4 zero_path) zero_lpcs zero_rings)

-- the frame before its first subframe
unfoldable pub start : Call → List ℤ → Framed
start c out =
    record {
      run =
          record {
            core = record { ps = start_paths c; sLTP_Q15 = zeros 640; delayedGain_Q10 = zeros 40; smpl_buf_idx = 0 };
            xq = c.state.xq;
            sLTP_shp_Q14 = c.state.sLTP_shp_Q14;
            pulses = out;
          };
      sLTP = zeros 640;
      prev_gain_Q16 = c.state.prev_gain_Q16;
    }

-- ---- the flushes
-- the three rows
abbrev pub outs_of : Running → Outs
outs_of t = record { xq = t.xq; sLTP_shp_Q14 = t.sLTP_shp_Q14; pulses = t.pulses }

-- after g samples, with winner w; n paths, length l, delay d
unfoldable pub flushed_run : ℕ → ℕ → (ℤ → ℤ) → ℕ → ℕ → Running → Outs
flushed_run l d fit g w t = flushed (4 * l) (get_or t.core.ps.rings w []) fit d g t.core.smpl_buf_idx (outs_of t)

-- the middle flush's rows, and the penalty of every other path
abbrev pub after_middle : ℕ → ℕ → Running → Outs → Running
after_middle n w t o =
    record {
      core =
          record {
            ps = paths (others_raised w n t.core.ps.owns) t.core.ps.lpcs t.core.ps.rings;
            sLTP_Q15 = t.core.sLTP_Q15;
            delayedGain_Q10 = t.core.delayedGain_Q10;
            smpl_buf_idx = t.core.smpl_buf_idx;
          };
      xq = o.xq;
      sLTP_shp_Q14 = o.sLTP_shp_Q14;
      pulses = o.pulses;
    }

-- with winner w
abbrev pub middle_with : ℕ → ℕ → ℕ → ℤ → Running → ℕ → Running
middle_with n l d gain t w = after_middle n w t (flushed_run l d (fit_middle gain) (2 * l) w t)

-- before the second rewhitening, 2L samples done
unfoldable pub middle_by : ℕ → ℕ → ℕ → ℤ → Running → Running
middle_by n l d gain t = middle_with n l d gain t (best_of t.core.ps.owns n)

-- ---- the rewhitening of a subframe
-- start_idx
abbrev pub start_idx : Fix → ℕ
start_idx f = 4 * f.subfr_length - f.lag - 2 - f.predictLPCOrder

-- a row of 640 words with m words of the history from `from` on filtered into it from `start` on; the words before it stay.
-- (The last part is what lies past the 640 words: nothing.)
unfoldable pub rewhitened : List ℤ → List ℤ → List ℤ → ℕ → ℕ → ℕ → ℕ → List ℤ
rewhitened row xq a order start from m =
    take start row ++ (analysis (take (640 - start) (drop start row)) (take m (drop from xq)) a order ++ drop (640 - start) (drop start row))

-- .. of a subframe, from start_idx on
abbrev pub rewhitened_at : Fix → List ℤ → List ℤ → List ℤ → List ℤ
rewhitened_at f a xq row =
    rewhitened row xq a f.predictLPCOrder (start_idx f) (start_idx f + f.base) (4 * f.subfr_length - start_idx f)

-- the work row filled from it: lag + 2 words before 4L
unfoldable pub refilled : Fix → ℤ → List ℤ → Running → Running
refilled f inv sltp t =
    record {
      core =
          record {
            ps = t.core.ps;
            sLTP_Q15 = filled inv sltp (4 * f.subfr_length - f.lag - 2) (f.lag + 2) t.core.sLTP_Q15;
            delayedGain_Q10 = t.core.delayedGain_Q10;
            smpl_buf_idx = t.core.smpl_buf_idx;
          };
      xq = t.xq;
      sLTP_shp_Q14 = t.sLTP_shp_Q14;
      pulses = t.pulses;
    }

-- what a subframe works on, with the filtered history
pub record Whitened : Type 0 where
  pub run : Running
  pub sLTP : List ℤ

-- the two together
abbrev pub whitened_of : Running → List ℤ → Whitened
whitened_of t row = record { run = t; sLTP = row }

-- both, with the new row in hand
abbrev pub whitened_with : Fix → ℤ → Running → List ℤ → Whitened
whitened_with f inv t row = record { run = refilled f inv row t; sLTP = row }

-- the rewhitening: the filtered row, and the work row from it
unfoldable pub whitened : Fix → List ℤ → ℤ → Running → List ℤ → Whitened
whitened f a inv t sltp = whitened_with f inv t (rewhitened_at f a t.xq sltp)

-- ---- the gain, where it is another than before; where it is the same, nothing changes
unfoldable pub regained : Fix → Bool → ℤ → Running → Running
regained f rewhite prev t =
    either (same_z f.Gain_Q16 prev) t (scaled f rewhite (gain_adj_Q16 prev f.Gain_Q16) t)

-- ---- before the samples of a subframe
-- the flush, if this is the second rewhitening
unfoldable pub flushed_first : Bool → Fix → ℤ → Running → Running
flushed_first again f gain1 t = either again (middle_by f.nStates f.subfr_length f.decisionDelay gain1 t) t

-- the rewhitening, if there is one
unfoldable pub whitened_first : Bool → Fix → List ℤ → ℤ → Running → List ℤ → Whitened
whitened_first rewhite f a inv t sltp = either rewhite (whitened f a inv t sltp) (record { run = t; sLTP = sltp })

-- the change of gain after that
abbrev pub regained_last : Bool → Fix → ℤ → Whitened → Whitened
regained_last rewhite f prev w = record { run = regained f rewhite prev w.run; sLTP = w.sLTP }

-- all three
unfoldable pub before : Bool → Bool → Fix → List ℤ → ℤ → ℤ → ℤ → Running → List ℤ → Whitened
before again rewhite f a gain1 inv prev t sltp =
    regained_last rewhite f prev (whitened_first rewhite f a inv (flushed_first again f gain1 t) sltp)

-- ---- a subframe, all subframes
-- its samples; its gain is now the gain before
unfoldable pub coded : Rule → Fix → Rows → List ℤ → Whitened → Framed
coded rule f v x w = record { run = subframe rule f v x w.run; sLTP = w.sLTP; prev_gain_Q16 = f.Gain_Q16 }

-- a subframe: again and rewhite say whether it is flushed and rewhitened before, gain1 and inv by what
unfoldable pub step : Rule → Fix → Rows → List ℤ → Bool → Bool → ℤ → ℤ → Framed → Framed
step rule f v x again rewhite gain1 inv t =
    coded rule f v x (before again rewhite f v.a gain1 inv t.prev_gain_Q16 t.run t.sLTP)

-- .. by all of that in one record
abbrev pub step_by : Rule → Fix → Rows → List ℤ → Prior → Framed → Framed
step_by rule f v x p t = step rule f v x p.again p.rewhite p.gain1 p.inv t

-- what comes before the samples of subframe k: whether it is flushed and rewhitened, and by what
unfoldable pub prior_by : Given → List ℤ → ℕ → Prior
prior_by g gains k =
    record { again = second_by g k; gain1 = word gains 1; rewhite = rewhites_by g k; inv = white_by g (word gains k) k }

-- subframe k, by what is given and the rows
unfoldable pub turn_by : Rule → Given → List ℤ → List ℤ → List ℤ → List ℤ → List ℤ → List ℤ → List ℤ → List ℤ → List ℤ → ℕ → Framed → Framed
turn_by rule g x pred ltp ar tilt harm lf gains lags k t =
    step_by rule (fix_by g lags lf gains k) (rows_by g pred ltp ar tilt harm k) x (prior_by g gains k) t

-- .. of a call
abbrev pub subframe_turn : Rule → Call → List ℤ → ℕ → Framed → Framed
subframe_turn rule c x k t =
    turn_by rule (given_of c) x c.PredCoef_Q12 c.LTPCoef_Q14 c.AR_Q13 c.Tilt_Q14 c.HarmShapeGain_Q14 c.LF_shp_Q14 c.Gains_Q16
    c.pitchL
    k
    t

-- n subframes, by what is given and the rows
abbrev pub run_by : Rule → Given → List ℤ → List ℤ → List ℤ → List ℤ → List ℤ → List ℤ → List ℤ → List ℤ → List ℤ → ℕ → Framed → Framed
run_by rule g x pred ltp ar tilt harm lf gains lags n t = iter (turn_by rule g x pred ltp ar tilt harm lf gains lags) n t

-- all subframes of a call
unfoldable pub run : Rule → Call → List ℤ → List ℤ → Framed
run rule c x out = iter (subframe_turn rule c x) (count_of c) (start c out)

-- what an accepted call hands back
pub record Done : Type 0 where
  pub seed : ℤ
  pub state : NsqState
  pub pulses : List ℤ

-- the three together
abbrev pub done_of : ℤ → NsqState → List ℤ → Done
done_of seed state out = record { seed = seed; state = state; pulses = out }

-- the state that is left: by what is given, the last lag, the LPC words of the state before, the gain, the final winner p with its LPC words, and
-- the rows after the last flush
unfoldable pub left_by : Given → ℤ → List ℤ → ℤ → Path → List ℤ → List ℤ → List ℤ → NsqState
left_by g lag words gain p lpc xq shp =
    record {
      xq = moved_down (g.nb_subfr * g.subfr_length) (4 * g.subfr_length) xq;
      sLTP_shp_Q14 = moved_down (g.nb_subfr * g.subfr_length) (4 * g.subfr_length) shp;
      sLPC_Q14 = words_from lpc g.subfr_length 16 words;
      sAR2_Q14 = p.sAR2_Q14;
      sLF_AR_shp_Q14 = p.LF_AR_Q14;
      sDiff_shp_Q14 = p.Diff_Q14;
      lagPrev = lag;
      sLTP_buf_idx = pos (4 * g.subfr_length + (since_by g (g.nb_subfr - 1) + 1) * g.subfr_length);
      sLTP_shp_buf_idx = pos (4 * g.subfr_length + g.nb_subfr * g.subfr_length);
      prev_gain_Q16 = gain;
      rewhite_flag = either (rewhites_by g (g.nb_subfr - 1)) (pos 1) (pos 0);
    }

-- .. with the seed that the winner started from, and the pulses
abbrev pub handed_out : Given → ℤ → List ℤ → ℤ → Path → List ℤ → Outs → Done
handed_out g lag words gain p lpc o =
    done_of p.«SeedInit» (left_by g lag words gain p lpc o.xq o.sLTP_shp_Q14) o.pulses

-- with the final winner w; `last` is the last gain
abbrev pub ended_with : Given → ℤ → ℤ → List ℤ → Framed → ℕ → Done
ended_with g last lag words t w =
    handed_out g lag words t.prev_gain_Q16 (get_or t.run.core.ps.owns w no_path) (get_or t.run.core.ps.lpcs w [])
    (flushed_run g.subfr_length g.delay (fit_last last) (g.nb_subfr * g.subfr_length) w t.run)

-- with the final winner as it is found
unfoldable pub ended_by : Given → ℤ → ℤ → List ℤ → Framed → Done
ended_by g last lag words t = ended_with g last lag words t (best_of t.run.core.ps.owns g.nStates)

-- .. of a call
abbrev pub ended : Call → Framed → Done
ended c t = ended_by (given_of c) (word c.Gains_Q16 (count_of c - 1)) (word c.pitchL (count_of c - 1)) c.state.sLPC_Q14 t

-- the whole frame
unfoldable pub frame : Rule → Call → List ℤ → List ℤ → Done
frame rule c x out = ended c (run rule c x out)
