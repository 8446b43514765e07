-- Which first frames are what they were before a fresh state had a lag: all that are voiced, all whose harmonic gains are 0, all that have no more than
-- 99 samples (L 40 with n 2); and in every other all pulses below 99 less the decision delay. Of the definition that the contracts cite, for every
-- rule of replacement. Assumes nothing.
use Prim.Native.Nat.{ℕ, ◌+◌, ◌-◌, ◌*◌, ◌<◌, ◌≤◌}
use native.Mathlib.Omega.{arith}
use mathlib.Core.Path.{◌≡◌, refl, sym, ap, ◌∙◌}
use mathlib.Core.Bool.{true, false}
use mathlib.Core.List.{List}
use lib.IntN.{ℤ, pos}
use lib.Dec.{eqb}
use borrow.Author.Tests.{eqb-true, eqb-false}
use Rattle.fixed.specs.Row.{word}
use Rattle.fixed.proofs.Iters.{cases}
use Rattle.silk.specs.State.{fresh_lag, fresh_state}
use Rattle.silk.proofs.Zeros.{zeros-word}
use Rattle.limits.specs.Count.{nat_z}
use Rattle.refusal_rules.specs.Code.{code_of}
use Rattle.steps.specs.Among.{Rule}
use Rattle.steps.specs.Call.{Call, voiced_by, given_by, length_of, count_of, delay_of}
use Rattle.steps.specs.Entry.{Outcome, taken, untouched, answered, outcome}
use Rattle.steps.specs.Frame.{frame}
use Rattle.steps.proofs.Outcomes.{outcome-is, accepted-by, refused-by}
use Rattle.counts.proofs.Rows.{Below, below_at}
use Rattle.fresh_lag.specs.Lags.{from, lagged, old_lag, first, first_before, heard_from, Unchanged}
use Rattle.fresh_lag.proofs.Good.{same_answer, same-delay}
use Rattle.fresh_lag.proofs.VoicedFrame.{voiced-frame}
use Rattle.fresh_lag.proofs.UnheardFrame.{gainless-frame, silent-frame, silent-early}

-- a fresh state holds today's lag
fresh-is : (c : Call) → lagged (first c) fresh_lag ≡ first c
unfolding lagged first from fresh_state
fresh-is c = refl

before-is : (c : Call) → first_before c ≡ lagged (first c) old_lag
unfolding first_before
before-is c = refl

-- both have one delay
delays : (c : Call) → delay_of (lagged (first c) fresh_lag) ≡ delay_of (lagged (first c) old_lag)
delays c = ap delay_of (fresh-is c) ∙ same-delay c ∙ ap delay_of (before-is c)

-- ---- from frames to outcomes
module _ (rule : Rule) (c : Call) (x p : List ℤ) where
  -- accepted: what the frames come to
  now-coded : code_of (answered (first c) x p) ≡ 0 → outcome rule (first c) x p ≡ taken (answered (first c) x p) (frame rule (first c) x p)
  now-coded z = outcome-is rule (first c) x p ∙ accepted-by rule (first c) x p (answered (first c) x p) z

  before-coded : code_of (answered (first c) x p) ≡ 0 → outcome rule (first_before c) x p ≡ taken (answered (first c) x p) (frame rule (first_before c) x p)
  before-coded z = outcome-is rule (first_before c) x p ∙ rw (← same_answer c x p) (accepted-by rule (first_before c) x p (answered (first c) x p) z)

  -- refused: the number, and what was given
  now-refused : 0 < code_of (answered (first c) x p) → outcome rule (first c) x p ≡ untouched (answered (first c) x p) (first c) p
  now-refused h = outcome-is rule (first c) x p ∙ refused-by rule (first c) x p (answered (first c) x p) h

  before-refused : 0 < code_of (answered (first c) x p) → outcome rule (first_before c) x p ≡ untouched (answered (first c) x p) (first_before c) p
  before-refused h = outcome-is rule (first_before c) x p ∙ rw (← same_answer c x p) (refused-by rule (first_before c) x p (answered (first c) x p) h)

  accepted : code_of (answered (first c) x p) ≡ 0 → frame rule (first c) x p ≡ frame rule (first_before c) x p → Unchanged rule c x p
  accepted z e =
      let same = now-coded z ∙ ap (taken (answered (first c) x p)) e ∙ sym (before-coded z) in
      record {
        answer = ap (λ (o : Outcome). o.answer) same;
        pulses = ap (λ (o : Outcome). o.pulses) same;
        seed = ap (λ (o : Outcome). o.seed) same;
        state = λ k. ap (λ (o : Outcome). o.state) same;
      }

  refused : 0 < code_of (answered (first c) x p) → Unchanged rule c x p
  unfolding first first_before lagged from
  refused h =
      let now = now-refused h in
      let old = before-refused h in
      record {
        answer = ap (λ (o : Outcome). o.answer) now ∙ sym (ap (λ (o : Outcome). o.answer) old);
        pulses = ap (λ (o : Outcome). o.pulses) now ∙ sym (ap (λ (o : Outcome). o.pulses) old);
        seed = ap (λ (o : Outcome). o.seed) now ∙ sym (ap (λ (o : Outcome). o.seed) old);
        state = λ k. absurd (let a = ap (λ (o : Outcome). code_of o.answer) now in omega arith);
      }

  -- where an accepted frame comes to the same, nothing has changed
  by_frames : (code_of (answered (first c) x p) ≡ 0 → frame rule (first c) x p ≡ frame rule (first_before c) x p) → Unchanged rule c x p
  by_frames e =
      cases (eqb (code_of (answered (first c) x p)) 0) (λ q. let z = eqb-true _ _ q in accepted z (e z))
      (λ q. let n = eqb-false (code_of (answered (first c) x p)) 0 q in refused (omega arith))

  -- two lags, as the frame's
  by-lags : frame rule (lagged (first c) fresh_lag) x p ≡ frame rule (lagged (first c) old_lag) x p → Unchanged rule c x p
  by-lags e =
      by_frames (λ z. ap (λ (d : Call). frame rule d x p) (sym (fresh-is c)) ∙ e ∙ ap (λ (d : Call). frame rule d x p) (sym (before-is c)))

  -- ---- the frames that are what they were
  -- every voiced one
  pub voiced-unchanged : voiced_by c.settings.signalType ≡ true → Unchanged rule c x p
  unfolding first from
  voiced-unchanged v = by-lags (voiced-frame rule (first c) fresh_lag old_lag x p v)

  -- every one whose harmonic gains are 0: so a sheet that was cleaned while a fresh state had no lag keeps its pulses
  pub gainless-unchanged : ((k : ℕ) → word c.HarmShapeGain_Q14 k ≡ pos 0) → Unchanged rule c x p
  unfolding first from
  gainless-unchanged g =
      cases (voiced_by c.settings.signalType) (λ v. voiced-unchanged v) (λ v. by-lags (gainless-frame rule (first c) fresh_lag old_lag x p v (delays c) g))

  -- ---- before sample 99 there is nothing to hear
  silent-words : (j : ℕ) → word (first c).state.sLTP_shp_Q14 j ≡ pos 0
  unfolding first from fresh_state
  silent-words j = zeros-word 640 j

  -- neither lag reaches a word of the frame itself
  today : 0 < nat_z fresh_lag → heard_from < nat_z fresh_lag
  unfolding heard_from fresh_lag
  today h = omega arith

  before : 0 < nat_z old_lag → heard_from < nat_z old_lag
  unfolding old_lag
  before h = absurd (omega arith)

  -- every frame that is no longer
  pub short-unchanged : count_of (first c) * length_of (first c) ≤ heard_from → Unchanged rule c x p
  unfolding first from
  short-unchanged h =
      cases (voiced_by c.settings.signalType) (λ v. voiced-unchanged v)
      (λ v. by-lags (silent-frame rule (first c) fresh_lag old_lag x p heard_from v (delays c) (λ j b. silent-words j) today before h))

  -- so every frame with L 40 and n 2
  pub forty-by-two-unchanged : c.settings.subfr_length ≡ pos 40 → c.settings.nb_subfr ≡ pos 2 → Unchanged rule c x p
  unfolding first from given_by heard_from fresh_lag
  forty-by-two-unchanged l n = short-unchanged (rw (l, n) (omega arith))

  -- in a frame that is not voiced the pulses of an accepted call that are decided before anything can be heard
  early-below : code_of (answered (first c) x p) ≡ 0 → voiced_by c.settings.signalType ≡ false
      → Below (heard_from - delay_of (first c)) (outcome rule (first c) x p).pulses (outcome rule (first_before c) x p).pulses
  unfolding first from
  early-below z v =
      let e = silent-early rule (first c) fresh_lag old_lag x p heard_from v (delays c) (λ j b. silent-words j) today before in
      rw (now-coded z, before-coded z, before-is c) (rw (fresh-is c) at e)

  -- every pulse at a place i with i + D < 99, D the decision delay: the same as before, in every first frame
  pub early-unchanged : (i : ℕ) → i + delay_of (first c) < heard_from → word (outcome rule (first c) x p).pulses i ≡ word (outcome rule (first_before c) x p).pulses i
  unfolding first from
  early-unchanged i h =
      cases (voiced_by c.settings.signalType) (λ v. ap (λ (l : List ℤ). word l i) (voiced-unchanged v).pulses)
      (λ v.
      cases (eqb (code_of (answered (first c) x p)) 0) (λ q. below_at (early-below (eqb-true _ _ q) v) i (omega arith))
      (λ q. let n = eqb-false (code_of (answered (first c) x p)) 0 q in ap (λ (l : List ℤ). word l i) (refused (omega arith)).pulses))
