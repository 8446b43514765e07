-- One path through a whole accepted call: the seed and the level at each sample, and what is handed out. Assumes nothing.
use Prim.Native.Nat.{ℕ, zero, suc, ◌+◌, ◌-◌, ◌*◌, ◌<◌, ◌≤◌}
use native.Mathlib.Omega.{arith}
use native.Mathlib.Nat.{suc-mul}
use mathlib.Core.Path.{◌≡◌, refl, sym, ap, ◌∙◌, subst}
use mathlib.Core.List.{List}
use lib.ListN.{get_or}
use lib.Dec.{eqb}
use lib.IntN.{ℤ}
use mir.Syntax.{w32}
use mir.Val.{SFits}
use Rattle.fixed.specs.Iter.{iter}
use Rattle.fixed.specs.Row.{word}
use Rattle.refusal_rules.specs.Code.{code_of}
use Rattle.refusal_rules.proofs.Room.{subframe-within}
use Rattle.path.specs.Data.{no_path, Running}
use Rattle.steps.specs.Among.{Rule}
use Rattle.steps.specs.Shared.{common}
use Rattle.steps.specs.Flush.{fit_last}
use Rattle.steps.specs.declared.structs.Given.{Given}
use Rattle.steps.specs.Call.{Call, given_of, length_of, count_of, paths_of, delay_of, second, rewhites, since, fix_by, fix_of, rows_of, white_gain}
use Rattle.steps.specs.Frame.{Framed, start, flushed_run, subframe_turn, ended_by}
use Rattle.steps.specs.Entry.{Outcome, answered, outcome}
use Rattle.counts.proofs.Rows.{below_all}
use Rattle.counts.proofs.Subframe.{bound}
use Rattle.counts.proofs.Place.{stands, behind, ends}
use Rattle.counts.proofs.Accepted.{Ready, ready}
use Rattle.heard.specs.Inside.{opened, at_sample, seed_in, level_in}
use Rattle.heard.proofs.Passes.{subframe-opens, sample-next, subframe-closes, outcome-ends}
use Rattle.heard.proofs.Kept.{seeds, Sampled, Kept, turn-sampled, turn-kept}
use Rattle.heard.proofs.Between.{back-kept, best-one, flush-kept, before-kept}
use Rattle.heard.proofs.Start.{given_seed, start-kept}
use Rattle.heard.proofs.Accepted.{seed-in-range, delay-some, tabled, midway}
use Rattle.heard.proofs.Levels.{level_at, level-in, pulse_row, row-long, row-rounds}

-- how many paths subframe k has
fix-paths : (c : Call) (k : ℕ) → (fix_of c k).nStates ≡ paths_of c
unfolding fix_by
fix-paths c k = refl

-- the end of one path: its last pulses, and the seed that it started from
end-0 : (g : Given) (last lag : ℤ) (words : List ℤ) (t : Framed) → g.nStates ≡ 1
    → ((ended_by g last lag words t).pulses ≡ (flushed_run g.subfr_length g.delay (fit_last last) (g.nb_subfr * g.subfr_length) 0 t.run).pulses)
    × ((ended_by g last lag words t).seed ≡ (get_or t.run.core.ps.owns 0 no_path).«SeedInit»)
unfolding ended_by
end-0 g last lag words t e =
    let b = best-one t.run.core.ps.owns g.nStates e in (
      ap (λ (w : ℕ). (flushed_run g.subfr_length g.delay (fit_last last) (g.nb_subfr * g.subfr_length) w t.run).pulses) b,
      ap (λ (w : ℕ). (get_or t.run.core.ps.owns w no_path).«SeedInit») b,
    )

-- what is kept of a call after g samples, b pulses out: by its own levels, its seed and the row of its pulses
abbrev KeptIn : Rule → Call → List ℤ → List ℤ → ℕ → ℕ → Running → Type 0
KeptIn rule c x out g b t = Kept (level_at rule c x out) (given_seed c) (pulse_row rule c x out (count_of c * length_of c)) g b t

-- how many pulses are out before sample i of subframe k
abbrev pub out_at : Call → ℕ → ℕ → ℕ
out_at c k i = bound (eqb (since c k) 0) (k * length_of c) (delay_of c) i

-- the frame in work after k subframes
abbrev pub after : Rule → Call → List ℤ → List ℤ → ℕ → Framed
after rule c x out k = iter (subframe_turn rule c x) k (start c out)

-- ---- an accepted call with one path
module _ (rule : Rule) (c : Call) (x out : List ℤ) (e : code_of (answered c x out) ≡ 0) (one : paths_of c ≡ 1) (fit : SFits w32 c.settings.Lambda_Q10) where
  r : Ready c x out
  r = ready c x out e

  -- after the subframes before k
  Done-to : ℕ → Framed → Type 0
  Done-to k t = KeptIn rule c x out (k * length_of c) (k * length_of c - delay_of c) t.run

  -- before sample i of subframe k
  At : ℕ → ℕ → Running → Type 0
  At k i t = KeptIn rule c x out (k * length_of c + i) (out_at c k i) t

  opened-at : (k : ℕ) → k < count_of c → (t : Framed) → Done-to k t → At k 0 (opened c k t)
  unfolding Done-to At
  opened-at k h t s =
      let a : k * length_of c ≡ k * length_of c + 0 = omega arith in
      subst (λ (z : ℕ). KeptIn rule c x out z (out_at c k 0) (opened c k t)) a
      (before-kept (count_of c * length_of c) (row-rounds rule c x out (count_of c * length_of c)) (second c k) (rewhites c k) (fix_of c k) (rows_of c k).a
      (word c.Gains_Q16 1) (white_gain c k) t.prev_gain_Q16 t.run t.sLTP (fix-paths c k ∙ one)
      (stands (given_of c) c.pitchL c.LF_shp_Q14 c.Gains_Q16 k r.sound.delay_short) (midway c x out e k h) s)

  first-at : (k : ℕ) → k < count_of c → Done-to k (after rule c x out k) → At k 0 (at_sample rule c x out k 0)
  first-at k h s = subst (At k 0) (sym (subframe-opens rule c x out k)) (opened-at k h (after rule c x out k) s)

  sample-at : (k i : ℕ) → k < count_of c → i < length_of c → At k i (at_sample rule c x out k i) → At k (suc i) (at_sample rule c x out k (suc i))
  unfolding At fix_by
  sample-at k i h l s =
      let b = behind (given_of c) c.pitchL c.LF_shp_Q14 c.Gains_Q16 k r.sound (r.early k h) in
      let n = sample-next rule c x out k i in
      subst (λ (z : Running). KeptIn rule c x out (k * length_of c + suc i) (out_at c k (suc i)) z) (sym n)
      (turn-kept rule (fix_of c k) (rows_of c k) x (tabled c x out e fit k) one (count_of c * length_of c) (row-rounds rule c x out (count_of c * length_of c))
      (delay-some c x out e) r.sound.delay40 b.late i (at_sample rule c x out k i)
      (let a = subframe-within (length_of c) h in omega arith) (ap level_in (sym n) ∙ sym (level-in rule c x out k i l)) s)

  samples-at : (k : ℕ) → k < count_of c → At k 0 (at_sample rule c x out k 0) → (i : ℕ) → i ≤ length_of c → At k i (at_sample rule c x out k i)
  samples-at k h s zero l = s
  samples-at k h s (suc i) l = sample-at k i h (omega arith) (samples-at k h s i (omega arith))

  subframe-done : (k : ℕ) → k < count_of c → Done-to k (after rule c x out k) → Done-to (suc k) (after rule c x out (suc k))
  unfolding Done-to At
  subframe-done k h s =
      let z : At k (length_of c) (at_sample rule c x out k (length_of c)) = samples-at k h (first-at k h s) (length_of c) (omega arith) in
      let g = k * length_of c + length_of c in
      let y : KeptIn rule c x out g (g - delay_of c) (after rule c x out (suc k)).run =
      subst (λ (w : Running). KeptIn rule c x out g (g - delay_of c) w) (sym (subframe-closes rule c x out k))
      (back-kept (fix_of c k) (at_sample rule c x out k (length_of c))
      (subst (λ (w : ℕ). KeptIn rule c x out g w (at_sample rule c x out k (length_of c))) (ends (eqb (since c k) 0) (k * length_of c) (delay_of c) (length_of c) r.sound.delay_short) z)) in
      subst (λ (w : ℕ). KeptIn rule c x out w (w - delay_of c) (after rule c x out (suc k)).run) (sym (suc-mul k (length_of c))) y

  start-done : Done-to 0 (start c out)
  unfolding Done-to
  start-done =
      let a : 0 ≡ 0 * length_of c = omega arith in
      let b : 0 ≡ 0 * length_of c - delay_of c = omega arith in
      let m = count_of c * length_of c in
      subst (λ (z : ℕ). KeptIn rule c x out z (0 * length_of c - delay_of c) (start c out).run) a
      (subst (λ (z : ℕ). KeptIn rule c x out 0 z (start c out).run) b
      (start-kept c out (pulse_row rule c x out m) (level_at rule c x out) one (seed-in-range c x out e).most (r.pulses ∙ sym (row-long rule c x out m))))

  done-to : (k : ℕ) → k ≤ count_of c → Done-to k (after rule c x out k)
  done-to zero h = start-done
  done-to (suc k) h = subframe-done k (omega arith) (done-to k (omega arith))

  kept-at : (k i : ℕ) → k < count_of c → i < length_of c → At k i (at_sample rule c x out k i)
  kept-at k i h l = samples-at k h (first-at k h (done-to k (omega arith))) i (omega arith)

  -- ---- what follows
  -- the seed at each sample is that of the levels before it
  pub seed-at : (k i : ℕ) → k < count_of c → i < length_of c
      → seed_in (at_sample rule c x out k i) ≡ seeds (level_at rule c x out) (given_seed c) (k * length_of c + i)
  unfolding At
  seed-at k i h l = let z : At k i (at_sample rule c x out k i) = kept-at k i h l in z.seed

  -- its level is that of a pulse, and its excitation went into the ring Pred_Q15
  pub sampled-at : (k i : ℕ) → k < count_of c → i < length_of c
      → Sampled (fix_of c k) (common (fix_of c k) (rows_of c k) x i (at_sample rule c x out k i)).LTP_pred_Q14 (at_sample rule c x out k i) (at_sample rule c x out k (suc i))
  unfolding At
  sampled-at k i h l =
      let t = at_sample rule c x out k i in
      let z : At k i t = kept-at k i h l in
      subst (Sampled (fix_of c k) (common (fix_of c k) (rows_of c k) x i t).LTP_pred_Q14 t) (sym (sample-next rule c x out k i))
      (turn-sampled rule (fix_of c k) (rows_of c k) x (tabled c x out e fit k) (fix-paths c k ∙ one) i t z)

  -- the pulses handed out are those of the levels, and the seed handed out is the one given
  pub handed_out : ((outcome rule c x out).pulses ≡ pulse_row rule c x out (count_of c * length_of c)) × ((outcome rule c x out).seed ≡ given_seed c)
  unfolding Done-to
  handed_out =
      let m = count_of c * length_of c in
      let t = after rule c x out (count_of c) in
      let s : Done-to (count_of c) t = done-to (count_of c) (omega arith) in
      let last = word c.Gains_Q16 (count_of c - 1) in
      let z = end-0 (given_of c) last (word c.pitchL (count_of c - 1)) c.state.sLPC_Q14 t one in
      let n : length_of c ≤ m = let a = subframe-within {k = 0} {n = count_of c} (length_of c) (let z = r.sound.some in omega arith) in omega arith in
      let o = flush-kept m (row-rounds rule c x out m) (length_of c) (delay_of c) (fit_last last) m t.run (let a = r.sound.delay_short in omega arith) r.sound.delay40 (omega arith) s in
      let y = outcome-ends rule c x out e in (
        ap (λ (w : Outcome). w.pulses) y ∙ z.0 ∙ below_all o (let a = o.len in let b = row-long rule c x out m in omega arith),
        ap (λ (w : Outcome). w.seed) y ∙ z.1 ∙ s.init,
      )
