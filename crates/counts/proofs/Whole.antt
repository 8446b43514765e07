-- Two calls that agree in what counts, from the start of the frame to its end. Assumes nothing.
use Prim.Native.Nat.{ℕ, suc, ◌+◌, ◌-◌, ◌*◌, ◌<◌, ◌≤◌}
use native.Mathlib.Omega.{arith}
use native.Mathlib.Nat.{suc-mul, mul-le-mul_right}
use mathlib.Core.Path.{◌≡◌, refl, sym, ap, ◌∙◌}
use mathlib.Core.List.{List, []}
use lib.ListN.{get_or, length, replicate}
use lib.IntN.{ℤ}
use lib.Dec.{eqb}
use Rattle.fixed.specs.Iter.{iter}
use Rattle.fixed.proofs.Iters.{iter-same, iter-rel}
use Rattle.silk.specs.State.{zeros}
use Rattle.path.specs.declared.structs.Path.{Path}
use Rattle.fixed.specs.Row.{word}
use Rattle.path.specs.Data.{no_path, Paths, paths}
use Rattle.steps.specs.Among.{Rule}
use Rattle.limits.specs.Count.{nat_z}
use Rattle.limits.specs.Tests.{last_of}
use Rattle.steps.specs.declared.structs.Given.{Given}
use Rattle.steps.specs.Call.{Call, given_of, length_of, count_of, paths_of, delay_of, second_by, rewhites_by, since_by, fix_by, fix_of, rows_by, rows_of, white_by}
use Rattle.steps.specs.Begin.{zero_path, zero_lpcs, zero_rings, copy_turn, start_lpc, start_rings, begin_turn, begun}
use Rattle.steps.specs.Flush.{best_of, fit_last, Outs}
use Rattle.steps.specs.Frame.{Framed, start_paths, start, flushed_run, step, subframe_turn, run, Done, left_by, handed_out, ended_by, ended, frame}
use Rattle.word_steps.specs.Tail.{down_turn, moved_down, words_turn, words_from}
use Rattle.counts.specs.Agree.{StateAgree, Agree}
use Rattle.counts.proofs.Rows.{Below, below_at, below_less, below_set, below_all, from-alike, to-alike}
use Rattle.counts.proofs.Subframe.{bound}
use Rattle.counts.proofs.Flush.{OutsSame, flush-same}
use Rattle.counts.proofs.Step.{FrameSame, step_same}
use Rattle.counts.proofs.Place.{stands, behind, ends}
use Rattle.counts.proofs.Accepted.{Ready}
use Rattle.counts.proofs.Frame.{turn_is, run-rel, ended_is, frame_is}
use Rattle.counts.proofs.Calls.{other, other_of, second-other, rewhites-other, settled, given-same, fix-same, inv-same, rows_same}

-- ---- the start reads 16 LPC words
lpc-same : (s t : List ℤ) → Below 16 s t → start_lpc s ≡ start_lpc t
unfolding start_lpc
lpc-same s t h = iter-same (copy_turn s) (copy_turn t) 16 (zeros 96) (λ j b l. rw (below_at h j b) refl)

begun-same : (ar2 : List ℤ) (lf diff : ℤ) (s t : List ℤ) (shape : ℤ) (seed n : ℕ) (o : Paths) → Below 16 s t → begun ar2 lf diff s shape seed n o ≡ begun ar2 lf diff t shape seed n o
unfolding begun
begun-same ar2 lf diff s t shape seed n o h =
    ap (λ (l : List ℤ). iter (begin_turn ar2 lf diff seed l (start_rings shape)) n o) (lpc-same s t h)

-- ---- the end
-- 4L words move down by N
moved_same : (m h : ℕ) {s t : List ℤ} → Below (h + m) s t → Below h (moved_down m h s) (moved_down m h t)
unfolding moved_down
moved_same m h {s} {t} r =
    below_less (omega arith)
    (iter-rel (λ j. Below (h + m)) (down_turn m) (down_turn m) h (λ j b x y q. rw (below_at q (m + j) (omega arith)) (below_set q j _)) s t r)

-- 16 LPC words are taken from the winner's
words_same : (from : List ℤ) (a m : ℕ) {b : ℕ} {s t : List ℤ} → Below b s t → Below b (words_from from a m s) (words_from from a m t)
unfolding words_from
words_same from a m {b} {s} {t} r = iter-rel (λ j. Below b) (words_turn from a) (words_turn from a) m (λ j k x y q. below_set q j _) s t r

left-same : (g : Given) (w s : ℤ) (prev : ℕ) (lag : ℤ) (words words' : List ℤ) (gain : ℤ) (p : Path) (lpc xq xq' shp shp' : List ℤ)
    → Below 16 words words' → Below (4 * g.subfr_length + g.nb_subfr * g.subfr_length) xq xq'
    → Below (4 * g.subfr_length + g.nb_subfr * g.subfr_length) shp shp'
    → StateAgree g.subfr_length (left_by g lag words gain p lpc xq shp) (left_by (other g w s prev) lag words' gain p lpc xq' shp')
    × ((left_by g lag words gain p lpc xq shp).lagPrev ≡ (left_by (other g w s prev) lag words' gain p lpc xq' shp').lagPrev)
unfolding left_by
left-same g w s prev lag words words' gain p lpc xq xq' shp shp' e a b = (
  record {
    xq = to-alike (below_less (omega arith) (moved_same (g.nb_subfr * g.subfr_length) (4 * g.subfr_length) a));
    shp = to-alike (below_less (omega arith) (moved_same (g.nb_subfr * g.subfr_length) (4 * g.subfr_length) b));
    lpc = to-alike (below_less (omega arith) (words_same lpc g.subfr_length 16 e));
    ar2 = refl;
    lf = refl;
    diff = refl;
    gain = refl;
  },
  refl,
)

-- what is handed out: m pulses, and the same
pub record DoneSame (m l : ℕ) (e u : Done) : Type 0 where
  pub long : length e.pulses ≡ m
  pub pulses : e.pulses ≡ u.pulses
  pub seed : e.seed ≡ u.seed
  pub state : StateAgree l e.state u.state
  pub lagPrev : e.state.lagPrev ≡ u.state.lagPrev

handed-same : (g : Given) (w s : ℤ) (prev : ℕ) (lag : ℤ) (words words' : List ℤ) (gain : ℤ) (p : Path) (lpc : List ℤ) {m : ℕ} (o u : Outs)
    → m ≡ g.nb_subfr * g.subfr_length
    → Below 16 words words' → OutsSame m (4 * g.subfr_length) (g.nb_subfr * g.subfr_length) o u
    → DoneSame m g.subfr_length (handed_out g lag words gain p lpc o) (handed_out (other g w s prev) lag words' gain p lpc u)
handed-same g w s prev lag words words' gain p lpc o u k e a =
    let z = left-same g w s prev lag words words' gain p lpc o.xq u.xq o.sLTP_shp_Q14 u.sLTP_shp_Q14 e a.xq a.shp in
    record { long = a.long; pulses = below_all a.out (omega (arith, a.long)); seed = refl; state = z.0; lagPrev = z.1 }

-- ---- two calls
module _ (c d : Call) (x y p q : List ℤ) (h : Agree c x p d y q) (r : Ready c x p) where
  length-is : length_of d ≡ length_of c
  length-is = ap (λ (g : Given). g.subfr_length) (given-same c d x y p q h)

  count-is : count_of c ≡ count_of d
  count-is = sym (ap (λ (g : Given). g.nb_subfr) (given-same c d x y p q h))

  paths-is : paths_of d ≡ paths_of c
  paths-is = ap (λ (g : Given). g.nStates) (given-same c d x y p q h)

  -- the state's words below 4L
  xq-below : Below (4 * length_of c) c.state.xq d.state.xq
  xq-below = below_less (omega (arith, (settled c).length)) (from-alike h.state.xq)

  shp-below : Below (4 * length_of c) c.state.sLTP_shp_Q14 d.state.sLTP_shp_Q14
  shp-below = below_less (omega (arith, (settled c).length)) (from-alike h.state.shp)

  -- 16 LPC words
  lpc-below : Below 16 c.state.sLPC_Q14 d.state.sLPC_Q14
  lpc-below = below_less (omega arith) (from-alike h.state.lpc)

  -- the paths
  paths-same : start_paths c ≡ start_paths d
  unfolding start_paths
  paths-same =
      let filter : c.state.sAR2_Q14 ≡ d.state.sAR2_Q14 = h.state.ar2 in
      rw (
        length-is,
        paths-is,
        ← h.Seed,
        ← filter,
        ← h.state.lf,
        ← h.state.diff,
        ← below_at shp-below (4 * length_of c - 1) (omega (arith, r.sound.long)),
      )
      (begun-same c.state.sAR2_Q14 c.state.sLF_AR_shp_Q14 c.state.sDiff_shp_Q14 c.state.sLPC_Q14 d.state.sLPC_Q14
      (word c.state.sLTP_shp_Q14 (4 * length_of c - 1)) (nat_z c.settings.Seed) (paths_of c) (paths (replicate 4 zero_path) zero_lpcs zero_rings) lpc-below)

  start-same : FrameSame (length p) (4 * length_of c) (0 * length_of c - delay_of c) (start c p) (start d q)
  unfolding start
  start-same =
      let a : 0 * length_of c - delay_of c ≡ 0 = omega arith in
      let b : 4 * length_of c + 0 ≡ 4 * length_of c = omega arith in
      rw a
      (record {
        run =
            record {
              long = refl;
              core = rw paths-same refl;
              xq = rw b (xq-below);
              shp = rw b (shp-below);
              out = record { len = h.pulses_long; eq = refl };
            };
        row = refl;
        gain = h.state.gain;
      })

  -- ---- subframe k
  step_by : (rule : Rule) (k : ℕ) → k < count_of c → (t u : Framed) → FrameSame (length p) (4 * length_of c) (k * length_of c - delay_of c) t u
      → FrameSame (length p) (4 * length_of c) (bound (eqb (since_by (given_of c) k) 0) (k * length_of c) (delay_of c) (length_of c))
      (step rule (fix_of c k) (rows_of c k) x (second_by (given_of c) k) (rewhites_by (given_of c) k) (word c.Gains_Q16 1) (white_by (given_of c) (word c.Gains_Q16 k) k) t)
      (step rule (fix_of c k) (rows_by (other_of c d) d.PredCoef_Q12 d.LTPCoef_Q14 d.AR_Q13 d.Tilt_Q14 d.HarmShapeGain_Q14 k) x
      (second_by (given_of c) k) (rewhites_by (given_of c) k) (word c.Gains_Q16 1) (white_by (other_of c d) (word c.Gains_Q16 k) k) u)
  unfolding fix_by
  step_by rule k b t u s =
      step_same rule (fix_of c k) (rows_of c k) _ (rows_same c d x y p q h r k b) (behind (given_of c) c.pitchL c.LF_shp_Q14 c.Gains_Q16 k r.sound (r.early k b)) x
      (second_by (given_of c) k) (rewhites_by (given_of c) k) (word c.Gains_Q16 1) _ _ t u
      (stands (given_of c) c.pitchL c.LF_shp_Q14 c.Gains_Q16 k r.sound.delay_short) (inv-same c d x y p q h (word c.Gains_Q16 k) k) s

  turn-same : (rule : Rule) (k : ℕ) → k < count_of c → (t u : Framed) → FrameSame (length p) (4 * length_of c) (k * length_of c - delay_of c) t u
      → FrameSame (length p) (4 * length_of c) (suc k * length_of c - delay_of c) (subframe_turn rule c x k t) (subframe_turn rule d y k u)
  turn-same rule k b t u s =
      let e = ends (eqb (since_by (given_of c) k) 0) (k * length_of c) (delay_of c) (length_of c) r.sound.delay_short ∙ ap (λ (m : ℕ). m - delay_of c) (sym (suc-mul k (length_of c))) in
      rw (
        given-same c d x y p q h,
        ← h.samples,
        turn_is rule (given_of c) x c.PredCoef_Q12 c.LTPCoef_Q14 c.AR_Q13 c.Tilt_Q14 c.HarmShapeGain_Q14 c.LF_shp_Q14 c.Gains_Q16 c.pitchL k t,
        turn_is rule (other_of c d) x d.PredCoef_Q12 d.LTPCoef_Q14 d.AR_Q13 d.Tilt_Q14 d.HarmShapeGain_Q14 d.LF_shp_Q14 d.Gains_Q16 d.pitchL k u,
        ← fix-same c d x y p q h k,
        ← h.gains,
        second-other (given_of c) d.settings.warping_Q16 d.settings.LTP_scale_Q14 (nat_z d.state.lagPrev) k,
        rewhites-other (given_of c) d.settings.warping_Q16 d.settings.LTP_scale_Q14 (nat_z d.state.lagPrev) k,
      )
      (rw e at (step_by rule k b t u s))

  run-same : (rule : Rule) → FrameSame (length p) (4 * length_of c) (count_of c * length_of c - delay_of c) (run rule c x p) (run rule d y q)
  run-same rule =
      run-rel (λ k. FrameSame (length p) (4 * length_of c) (k * length_of c - delay_of c)) rule c d x y p q count-is (λ k b t u. turn-same rule k b t u) start-same

  -- ---- the end
  -- the last lag
  last-same : word c.pitchL (count_of c - 1) ≡ word d.pitchL (count_of c - 1)
  unfolding last_of
  last-same = rw (← r.lags) (h.last ∙ rw (← h.lags_long) refl)

  -- the end of the one, by what it shares with the other
  ended-c : (t u : Framed) → FrameSame (length p) (4 * length_of c) (count_of c * length_of c - delay_of c) t u
      → ended c t
      ≡ handed_out (given_of c) (word d.pitchL (count_of c - 1)) c.state.sLPC_Q14 u.prev_gain_Q16 (get_or u.run.core.ps.owns (best_of u.run.core.ps.owns (paths_of c)) no_path)
      (get_or u.run.core.ps.lpcs (best_of u.run.core.ps.owns (paths_of c)) [])
      (flushed_run (length_of c) (delay_of c) (fit_last (word c.Gains_Q16 (count_of c - 1))) (count_of c * length_of c) (best_of u.run.core.ps.owns (paths_of c)) t.run)
  ended-c t u s =
      ended_is (given_of c) (word c.Gains_Q16 (count_of c - 1)) (word c.pitchL (count_of c - 1)) c.state.sLPC_Q14 t
      ∙ (λ i.
      handed_out (given_of c) (last-same i) c.state.sLPC_Q14 (s.gain i) (get_or (s.run.core i).ps.owns (best_of (s.run.core i).ps.owns (paths_of c)) no_path)
      (get_or (s.run.core i).ps.lpcs (best_of (s.run.core i).ps.owns (paths_of c)) [])
      (flushed_run (length_of c) (delay_of c) (fit_last (word c.Gains_Q16 (count_of c - 1))) (count_of c * length_of c) (best_of (s.run.core i).ps.owns (paths_of c)) t.run))

  ended-d : (u : Framed)
      → ended d u
      ≡ handed_out (other_of c d) (word d.pitchL (count_of c - 1)) d.state.sLPC_Q14 u.prev_gain_Q16 (get_or u.run.core.ps.owns (best_of u.run.core.ps.owns (paths_of c)) no_path)
      (get_or u.run.core.ps.lpcs (best_of u.run.core.ps.owns (paths_of c)) [])
      (flushed_run (length_of c) (delay_of c) (fit_last (word c.Gains_Q16 (count_of c - 1))) (count_of c * length_of c) (best_of u.run.core.ps.owns (paths_of c)) u.run)
  ended-d u =
      ap (λ (g : Given). ended_by g (word d.Gains_Q16 (g.nb_subfr - 1)) (word d.pitchL (g.nb_subfr - 1)) d.state.sLPC_Q14 u) (given-same c d x y p q h)
      ∙ ap (λ (l : List ℤ). ended_by (other_of c d) (word l (count_of c - 1)) (word d.pitchL (count_of c - 1)) d.state.sLPC_Q14 u) (sym h.gains)
      ∙ ended_is (other_of c d) (word c.Gains_Q16 (count_of c - 1)) (word d.pitchL (count_of c - 1)) d.state.sLPC_Q14 u

  ended_same : (t u : Framed) → FrameSame (length p) (4 * length_of c) (count_of c * length_of c - delay_of c) t u → DoneSame (length p) (length_of c) (ended c t) (ended d u)
  ended_same t u s =
      let w = best_of u.run.core.ps.owns (paths_of c) in
      let two : delay_of c ≤ count_of c * length_of c = omega (arith, r.sound.delay_short, mul-le-mul_right (length_of c) r.sound.some) in
      let o = flush-same (length_of c) (delay_of c) (fit_last (word c.Gains_Q16 (count_of c - 1))) (count_of c * length_of c) w t.run u.run two s.run in
      rw (ended-c t u s, ended-d u)
      (handed-same (given_of c) d.settings.warping_Q16 d.settings.LTP_scale_Q14 (nat_z d.state.lagPrev) (word d.pitchL (count_of c - 1)) c.state.sLPC_Q14 d.state.sLPC_Q14 u.prev_gain_Q16
      (get_or u.run.core.ps.owns w no_path) (get_or u.run.core.ps.lpcs w []) _ _ r.pulses lpc-below o)

  pub frame_same : (rule : Rule) → DoneSame (length p) (length_of c) (frame rule c x p) (frame rule d y q)
  frame_same rule = rw (frame_is rule c x p, frame_is rule d y q) (ended_same (run rule c x p) (run rule d y q) (run-same rule))
