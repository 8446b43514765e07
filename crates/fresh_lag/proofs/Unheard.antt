-- A lag that isn't heard, in a subframe: where a frame isn't voiced, the lag enters only the harmonic term, so two subframes with different lags do the
-- same as long as that term is 0 under both. Assumes nothing.
use Prim.Native.Nat.{ℕ, suc, ◌+◌, ◌-◌, ◌*◌, ◌<◌, ◌≤◌}
use native.Mathlib.Omega.{arith}
use mathlib.Core.Path.{◌≡◌, refl, ap, ◌∙◌}
use mathlib.Core.Bool.{false}
use mathlib.Core.List.{List}
use lib.ListN.{set}
use lib.Dec.{ltb}
use borrow.Author.Tests.{ltb-true}
use lib.IntN.{ℤ, pos}
use Rattle.fixed.proofs.Iters.{iter-rel, either-all}
use Rattle.word_steps.specs.Harmonic.{ltp_term}
use Rattle.word_steps.specs.Gains.{gain_adj_Q16}
use Rattle.noise.specs.Output.{pulse_of}
use Rattle.path.specs.declared.structs.Fix.{Fix}
use Rattle.path.specs.declared.structs.Common.{Common}
use Rattle.path.specs.Data.{Paths, Running, Rows}
use Rattle.path.specs.Path.{moved, terms_of, pair_of, pair}
use Rattle.path.specs.Scaled.{scaled_words}
use Rattle.limits.specs.Count.{same_z}
use Rattle.steps.specs.Among.{Rule}
use Rattle.steps.specs.Each.{moves, pairs}
use Rattle.steps.specs.Sample.{tried, sample}
use Rattle.steps.specs.Settled.{Settled}
use Rattle.steps.specs.Shared.{predicted, harmonic, common, common_from}
use Rattle.steps.specs.Leaving.{leaves}
use Rattle.steps.specs.Turn.{took_from, took, put_at, put, turn}
use Rattle.steps.specs.Subframe.{move_back, subframe}
use Rattle.steps.specs.Scale.{scaled_work, scaled}
use Rattle.steps.specs.Frame.{Framed, framed_of, regained, flushed_first, whitened_first, before, coded, step}
use Rattle.counts.proofs.Rows.{Below}
use Rattle.counts.proofs.Subframe.{turn-wrote, moved_back}
use Rattle.counts.proofs.Prefix.{Pre, pre-step, emit-past, run_out, frame_out}

-- ---- a subframe that isn't voiced
-- its scalars, with the lag d
abbrev pub quiet : Fix → ℕ → Fix
quiet f d =
    record {
      subfr_length = f.subfr_length;
      predictLPCOrder = f.predictLPCOrder;
      shapingLPCOrder = f.shapingLPCOrder;
      nStates = f.nStates;
      voiced = false;
      offset_Q10 = f.offset_Q10;
      Lambda_Q10 = f.Lambda_Q10;
      lag = d;
      LF_shp_Q14 = f.LF_shp_Q14;
      Gain_Q16 = f.Gain_Q16;
      inv_gain_Q26 = f.inv_gain_Q26;
      decisionDelay = f.decisionDelay;
      base = f.base;
      buf = f.buf;
      first = f.first;
    }

-- the harmonic term of sample i, where there is a lag d, is 0
abbrev pub NoTerm : ℕ → ℕ → ℕ → ℤ → List ℤ → ℕ → Type 0
NoTerm l base d packed s i = 0 < d → ltp_term s (4 * l + base + i + 1 - d) packed (pos 0) ≡ pos 0

-- ---- a sample reads the lag only in its harmonic term
-- the sample itself
took-quiet : (rule : Rule) (f : Fix) (d e : ℕ) (v : Rows) (i r0 : ℕ) (p : Paths) (s : Common) → took_from rule (quiet f d) v i r0 p s ≡ took_from rule (quiet f e) v i r0 p s
unfolding took_from sample tried moves moved pairs pair terms_of pair_of
took-quiet rule f d e v i r0 p s = refl

-- what is written
put-quiet : (f : Fix) (d e i : ℕ) (s : Settled) (t : Running) → put (quiet f d) i s t ≡ put (quiet f e) i s t
unfolding put put_at leaves
put-quiet f d e i s t = refl

-- the LPC words at the front
back-quiet : (f : Fix) (d e : ℕ) (t : Running) → move_back (quiet f d) t ≡ move_back (quiet f e) t
unfolding move_back
back-quiet f d e t = refl

-- the change of gain
regained-quiet : (f : Fix) (d e : ℕ) (prev : ℤ) (t : Running) → regained (quiet f d) false prev t ≡ regained (quiet f e) false prev t
unfolding regained scaled scaled_work
regained-quiet f d e prev t = refl

-- the harmonic term
term-quiet : (f : Fix) (d : ℕ) (packed : ℤ) (s : List ℤ) (i : ℕ) → NoTerm f.subfr_length f.base d packed s i → harmonic (quiet f d) packed s i (pos 0) ≡ pos 0
unfolding harmonic
term-quiet f d packed s i h =
    either-all (λ (z : ℤ). z ≡ pos 0) (ltb 0 d) (ltp_term s (4 * f.subfr_length + f.base + i + 1 - d) packed (pos 0)) (pos 0) (λ e. h (ltb-true 0 d e)) (λ e. refl)

-- what all paths share
common-is : (f : Fix) (d : ℕ) (v : Rows) (x : List ℤ) (i : ℕ) (t : Running)
    → common (quiet f d) v x i t ≡ common_from (quiet f d) v.half.HarmShapeFIRPacked_Q14 t.sLTP_shp_Q14 x i (pos 0)
unfolding common predicted
common-is f d v x i t = refl

common-quiet : (f : Fix) (d e : ℕ) (v : Rows) (x : List ℤ) (i : ℕ) (t : Running)
    → NoTerm f.subfr_length f.base d v.half.HarmShapeFIRPacked_Q14 t.sLTP_shp_Q14 i
    → NoTerm f.subfr_length f.base e v.half.HarmShapeFIRPacked_Q14 t.sLTP_shp_Q14 i → common (quiet f d) v x i t ≡ common (quiet f e) v x i t
common-quiet f d e v x i t h k =
    rw (
      common-is f d v x i t,
      common-is f e v x i t,
      term-quiet f d v.half.HarmShapeFIRPacked_Q14 t.sLTP_shp_Q14 i h,
      term-quiet f e v.half.HarmShapeFIRPacked_Q14 t.sLTP_shp_Q14 i k,
    ) refl

-- the whole sample
turn-quiet : (rule : Rule) (f : Fix) (d e : ℕ) (v : Rows) (x : List ℤ) (i : ℕ) (t : Running) → common (quiet f d) v x i t ≡ common (quiet f e) v x i t
    → turn rule (quiet f d) v x i t ≡ turn rule (quiet f e) v x i t
unfolding turn took
turn-quiet rule f d e v x i t h =
    ap (λ (s : Common). put (quiet f d) i (took_from rule (quiet f d) v i t.core.smpl_buf_idx t.core.ps s) t) h
    ∙ ap (λ (z : Settled). put (quiet f d) i z t) (took-quiet rule f d e v i t.core.smpl_buf_idx t.core.ps (common (quiet f e) v x i t))
    ∙ put-quiet f d e i (took_from rule (quiet f e) v i t.core.smpl_buf_idx t.core.ps (common (quiet f e) v x i t)) t

-- ---- what is known of the shaping row
-- a property of shaping rows that a frame with subframes of l samples keeps: by a word at 4l or later, and by a change of gain
pub record Kept (l : ℕ) (Q : List ℤ → Type 0) : Type 0 where
  pub written : (s : List ℤ) (j : ℕ) (w : ℤ) → 4 * l ≤ j → Q s → Q (set s j w)
  pub scaled : (adj : ℤ) (base : ℕ) (s : List ℤ) → Q s → Q (scaled_words adj base (4 * l) s)

-- in a subframe from sample `base` on, each term with the lag d that reads a shaping row with that property is 0 before sample t of the frame
abbrev pub Unheard : (List ℤ → Type 0) → ℕ → ℕ → ℤ → ℕ → ℕ → Type 0
Unheard Q l base packed d t = (i : ℕ) → i < l → base + i < t → (s : List ℤ) → Q s → NoTerm l base d packed s i

-- two states of a frame after g samples: `Pre` of the crate `counts`, and what is known of the shaping row
pub record Along {A : Type 0} (Q : List ℤ → Type 0) (out shaped : A → List ℤ) (b t g : ℕ) (r s : A) : Type 0 where
  pub pre : Pre out b t g r s
  pub kept : Q (shaped r)

-- the shaping row of a subframe in work
abbrev run_shaped : Running → List ℤ
run_shaped t = t.sLTP_shp_Q14

-- the shaping row of a frame in work
abbrev pub frame_shaped : Framed → List ℤ
frame_shaped t = t.run.sLTP_shp_Q14

-- ---- before the samples
-- the change of gain writes no pulses
regained-out : (f : Fix) (prev : ℤ) (t : Running) → (regained f false prev t).pulses ≡ t.pulses
unfolding regained scaled
regained-out f prev t =
    either-all (λ (z : Running). z.pulses ≡ t.pulses) (same_z f.Gain_Q16 prev) t (scaled f false (gain_adj_Q16 prev f.Gain_Q16) t) (λ e. refl) (λ e. refl)

-- .. and keeps what is known of the shaping row
regained-kept : (Q : List ℤ → Type 0) (f : Fix) (prev : ℤ) (t : Running) → Kept f.subfr_length Q → Q t.sLTP_shp_Q14 → Q (regained f false prev t).sLTP_shp_Q14
unfolding regained scaled
regained-kept Q f prev t k q =
    either-all (λ (z : Running). Q z.sLTP_shp_Q14) (same_z f.Gain_Q16 prev) t (scaled f false (gain_adj_Q16 prev f.Gain_Q16) t)
    (λ e. q) (λ e. k.scaled (gain_adj_Q16 prev f.Gain_Q16) f.base t.sLTP_shp_Q14 q)

-- a subframe that is neither flushed nor rewhitened: the change of gain, then its samples
step-quiet : (rule : Rule) (f : Fix) (d : ℕ) (v : Rows) (x : List ℤ) (gain1 inv : ℤ) (t : Framed)
    → step rule (quiet f d) v x false false gain1 inv t
    ≡ framed_of (subframe rule (quiet f d) v x (regained (quiet f d) false t.prev_gain_Q16 t.run)) t.sLTP f.Gain_Q16
unfolding step coded before flushed_first whitened_first
step-quiet rule f d v x gain1 inv t = refl

-- ---- a subframe with the lags d and e, whose terms are 0 before sample t of the frame
module _ (Q : List ℤ → Type 0) (rule : Rule) (f : Fix) (v : Rows) (x : List ℤ) (d e t : ℕ) (k : Kept f.subfr_length Q)
    (zero_with_d : Unheard Q f.subfr_length f.base v.half.HarmShapeFIRPacked_Q14 d t)
    (zero_with_e : Unheard Q f.subfr_length f.base v.half.HarmShapeFIRPacked_Q14 e t) where
  -- a sample writes no pulse before its own place less the delay
  turn-out : (i : ℕ) {b : ℕ} → b ≤ f.base + i - f.decisionDelay → (r s : Running) → Below b r.pulses s.pulses
      → Below b (turn rule (quiet f d) v x i r).pulses (turn rule (quiet f e) v x i s).pulses
  unfolding leaves
  turn-out i h r s a =
      rw ((turn-wrote rule (quiet f d) v x i r).out, (turn-wrote rule (quiet f e) v x i s).out)
      (emit-past (leaves f i) (f.base + i - f.decisionDelay) (pulse_of (took rule (quiet f d) v x i r).Q_Q10) (pulse_of (took rule (quiet f e) v x i s).Q_Q10) h a)

  -- .. and no shaping word before 4L
  turn-kept : (i : ℕ) (r : Running) → Q r.sLTP_shp_Q14 → Q (turn rule (quiet f d) v x i r).sLTP_shp_Q14
  turn-kept i r q =
      let p = 4 * f.subfr_length + (f.base + i - f.decisionDelay) in
      let w = (took rule (quiet f d) v x i r).Shape_Q14 in
      rw (turn-wrote rule (quiet f d) v x i r).shp
      (either-all Q (leaves (quiet f d) i) (set r.sLTP_shp_Q14 p w) r.sLTP_shp_Q14 (λ c. k.written r.sLTP_shp_Q14 p w (omega arith) q) (λ c. q))

  -- a sample, all samples, and the change of gain before them
  turn_along : (i : ℕ) → i < f.subfr_length → (r s : Running) → Along Q run_out run_shaped (t - f.decisionDelay) t (f.base + i) r s
      → Along Q run_out run_shaped (t - f.decisionDelay) t (f.base + suc i) (turn rule (quiet f d) v x i r) (turn rule (quiet f e) v x i s)
  turn_along i h r s a =
      record {
        pre =
            pre-step run_out run_out (turn rule (quiet f d) v x i) (turn rule (quiet f e) v x i) (omega arith)
            (λ z q.
            turn-quiet rule f d e v x i r (common-quiet f d e v x i r (zero_with_d i h (omega arith) r.sLTP_shp_Q14 a.kept) (zero_with_e i h (omega arith) r.sLTP_shp_Q14 a.kept))
            ∙ ap (turn rule (quiet f e) v x i) q)
            (λ z q. turn-out i (omega arith) r s q) a.pre;
        kept = turn-kept i r a.kept;
      }

  back-along : {b g : ℕ} (r s : Running) → Along Q run_out run_shaped b t g r s → Along Q run_out run_shaped b t g (move_back (quiet f d) r) (move_back (quiet f e) s)
  back-along r s a =
      record {
        pre =
            pre-step run_out run_out (move_back (quiet f d)) (move_back (quiet f e)) (omega arith) (λ z q. back-quiet f d e r ∙ ap (move_back (quiet f e)) q)
            (λ z q. rw ((moved_back (quiet f d) r).out, (moved_back (quiet f e) s).out) q) a.pre;
        kept = rw (moved_back (quiet f d) r).shp a.kept;
      }

  samples-along : (r s : Running) → Along Q run_out run_shaped (t - f.decisionDelay) t f.base r s
      → Along Q run_out run_shaped (t - f.decisionDelay) t (f.base + f.subfr_length) (subframe rule (quiet f d) v x r) (subframe rule (quiet f e) v x s)
  unfolding subframe
  samples-along r s a =
      let z : f.base ≡ f.base + 0 = omega arith in
      back-along _ _
      (iter-rel (λ i. Along Q run_out run_shaped (t - f.decisionDelay) t (f.base + i)) (turn rule (quiet f d) v x) (turn rule (quiet f e) v x) f.subfr_length
      (λ i h r s. turn_along i h r s) r s (rw z at a))

  regained-along : {b g : ℕ} (r s : Framed) → Along Q frame_out frame_shaped b t g r s
      → Along Q run_out run_shaped b t g (regained (quiet f d) false r.prev_gain_Q16 r.run) (regained (quiet f e) false s.prev_gain_Q16 s.run)
  regained-along r s a =
      record {
        pre =
            pre-step frame_out run_out (λ (z : Framed). regained (quiet f d) false z.prev_gain_Q16 z.run) (λ (z : Framed). regained (quiet f e) false z.prev_gain_Q16 z.run)
            (omega arith) (λ z q. regained-quiet f d e r.prev_gain_Q16 r.run ∙ ap (λ (z : Framed). regained (quiet f e) false z.prev_gain_Q16 z.run) q)
            (λ z q. rw (regained-out (quiet f d) r.prev_gain_Q16 r.run, regained-out (quiet f e) s.prev_gain_Q16 s.run) q) a.pre;
        kept = regained-kept Q (quiet f d) r.prev_gain_Q16 r.run k a.kept;
      }

  -- a whole subframe: as long as the terms are 0 it does the same, and after that it changes no pulse below t less the delay
  pub step-along : (gain1 inv inv' : ℤ) (r s : Framed) → Along Q frame_out frame_shaped (t - f.decisionDelay) t f.base r s
      → Along Q frame_out frame_shaped (t - f.decisionDelay) t (f.base + f.subfr_length) (step rule (quiet f d) v x false false gain1 inv r)
      (step rule (quiet f e) v x false false gain1 inv' s)
  step-along gain1 inv inv' r s a =
      let q = samples-along _ _ (regained-along r s a) in
      rw (step-quiet rule f d v x gain1 inv r, step-quiet rule f e v x gain1 inv' s)
      (record {
        pre =
            record {
              same = λ z. let o : r ≡ s = a.pre.same (omega arith) in rw (q.pre.same z, ap (λ (w : Framed). w.sLTP) o) refl;
              out = q.pre.out;
            };
        kept = q.kept;
      })
