-- What comes from sample t on changes no pulse below t less the delay: the subframes of a call, and its end. Assumes nothing.
use Prim.Native.Nat.{ℕ, suc, ◌+◌, ◌-◌, ◌*◌, ◌<◌}
use native.Mathlib.Omega.{arith}
use native.Mathlib.Nat.{suc-mul}
use mathlib.Core.Path.{◌≡◌, refl, ap}
use mathlib.Core.List.{List}
use lib.IntN.{ℤ}
use Rattle.fixed.specs.Row.{word}
use Rattle.steps.specs.Among.{Rule}
use Rattle.steps.specs.Call.{Call, given_of, length_of, count_of, delay_of, second_by, rewhites_by, fix_by, fix_of, rows_of, white_gain, Sound}
use Rattle.steps.specs.Flush.{best_of, fit_last}
use Rattle.steps.specs.Frame.{Framed, step, subframe_turn, run, Done, ended, frame}
use Rattle.steps.proofs.Sound.{second_is}
use Rattle.counts.proofs.Rows.{Below, below-refl}
use Rattle.counts.proofs.Flush.{flush-past}
use Rattle.counts.proofs.Prefix.{Pre, pre-step, frame_out, step-pre}
use Rattle.counts.proofs.Frame.{turn_is, run-rel, ended_is, frame_is}

module _ (rule : Rule) (c : Call) (x y p : List ℤ) (t : ℕ) (eq : (j : ℕ) → j < t → word x j ≡ word y j) (s : Sound (given_of c) c.pitchL) where
  -- subframe k, from kL samples to (k + 1)L
  step_by : (k : ℕ) (r q : Framed) → Pre frame_out (t - delay_of c) t (k * length_of c) r q
      → Pre frame_out (t - delay_of c) t (k * length_of c + length_of c)
      (step rule (fix_of c k) (rows_of c k) x (second_by (given_of c) k) (rewhites_by (given_of c) k) (word c.Gains_Q16 1) (white_gain c k) r)
      (step rule (fix_of c k) (rows_of c k) y (second_by (given_of c) k) (rewhites_by (given_of c) k) (word c.Gains_Q16 1) (white_gain c k) q)
  unfolding fix_by
  step_by k r q h =
      step-pre rule (fix_of c k) (rows_of c k) s.order10 (let a = s.shaping2 in omega arith) x y t eq (second_by (given_of c) k) (rewhites_by (given_of c) k) (word c.Gains_Q16 1) (white_gain c k)
      (λ e. let a : k * length_of c ≡ 2 * length_of c = ap (λ (i : ℕ). i * length_of c) (second_is (given_of c) k e).0 in omega arith) r q h

  turn-pre : (k : ℕ) (r q : Framed) → Pre frame_out (t - delay_of c) t (k * length_of c) r q
      → Pre frame_out (t - delay_of c) t (suc k * length_of c) (subframe_turn rule c x k r) (subframe_turn rule c y k q)
  turn-pre k r q h =
      rw (
        suc-mul k (length_of c),
        turn_is rule (given_of c) x c.PredCoef_Q12 c.LTPCoef_Q14 c.AR_Q13 c.Tilt_Q14 c.HarmShapeGain_Q14 c.LF_shp_Q14 c.Gains_Q16 c.pitchL k r,
        turn_is rule (given_of c) y c.PredCoef_Q12 c.LTPCoef_Q14 c.AR_Q13 c.Tilt_Q14 c.HarmShapeGain_Q14 c.LF_shp_Q14 c.Gains_Q16 c.pitchL k q,
      )
      (step_by k r q h)

  run-pre : Pre frame_out (t - delay_of c) t (count_of c * length_of c) (run rule c x p) (run rule c y p)
  run-pre =
      run-rel (λ k. Pre frame_out (t - delay_of c) t (k * length_of c)) rule c c x y p p refl (λ k h r q. turn-pre k r q)
      (record { same = λ h. refl; out = below-refl _ _ })

  -- the end: the last flush writes from N - D on
  ended-pre : (r q : Framed) → Pre frame_out (t - delay_of c) t (count_of c * length_of c) r q → Below (t - delay_of c) (ended c r).pulses (ended c q).pulses
  ended-pre r q h =
      let last = word c.Gains_Q16 (count_of c - 1) in
      let lag = word c.pitchL (count_of c - 1) in
      let words = c.state.sLPC_Q14 in
      (pre-step frame_out (λ (d : Done). d.pulses) (ended c) (ended c) {g = count_of c * length_of c} {g' = count_of c * length_of c} (omega arith) (λ z e. ap (ended c) e)
      (λ z a.
      rw (ended_is (given_of c) last lag words r, ended_is (given_of c) last lag words q)
      (flush-past (length_of c) (delay_of c) (fit_last last) (count_of c * length_of c) (best_of r.run.core.ps.owns (given_of c).nStates) (best_of q.run.core.ps.owns (given_of c).nStates) r.run q.run
      (omega arith) a)) h).out

  pub frame-pre : Below (t - delay_of c) (frame rule c x p).pulses (frame rule c y p).pulses
  frame-pre = rw (frame_is rule c x p, frame_is rule c y p) (ended-pre (run rule c x p) (run rule c y p) run-pre)
