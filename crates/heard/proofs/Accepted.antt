-- What an accepted call has, with any number of paths: its kinds are in range, its seed is small, it hands out one pulse for each sample, these are at
-- most 320, and a flush in the middle has its place. Assumes nothing.
use Prim.Native.Nat.{ℕ, ◌*◌, ◌<◌, ◌≤◌}
use native.Mathlib.Omega.{arith}
use mathlib.Core.Path.{◌≡◌, refl, ap, ◌∙◌}
use mathlib.Core.Bool.{true}
use mathlib.Core.List.{List}
use lib.ListN.{length}
use lib.IntN.{ℤ}
use mir.Syntax.{w32}
use mir.Val.{SFits}
use Rattle.limits.specs.Count.{nat_z}
use Rattle.refusal_rules.specs.Code.{code_of}
use Rattle.refusal_rules.specs.Good.{Among}
use Rattle.refusal_rules.proofs.Room.{subframe-within}
use Rattle.steps.specs.Among.{Rule}
use Rattle.steps.specs.Call.{Call, given_by, given_of, length_of, count_of, delay_of, second, fix_by, fix_of}
use Rattle.steps.specs.Entry.{Outcome, answered, outcome}
use Rattle.steps.proofs.Outcomes.{outcome-is, accepted-good, accepted-by}
use Rattle.steps.proofs.Sound.{delay-13, second_is, subframes-small}
use Rattle.counts.proofs.Accepted.{ready}
use Rattle.counts.proofs.Filled.{agree-unread}
use Rattle.counts.proofs.Whole.{frame_same}
use Rattle.heard.proofs.Candidates.{Tabled}
use Rattle.heard.proofs.Between.{Midway}

module _ (c : Call) (x out : List ℤ) (e : code_of (answered c x out) ≡ 0) where
  -- the signal type is 0, 1 or 2, and the offset type 0 or 1
  pub kinds-in-range : Among 0 2 c.settings.signalType × Among 0 1 c.settings.quantOffsetType
  kinds-in-range = let g = (accepted-good c x out e).settings in (g.kind, g.offset)

  -- the seed that is given is 0, 1, 2 or 3
  pub seed-in-range : Among 0 3 c.settings.Seed
  seed-in-range = (accepted-good c x out e).settings.seed

  -- the decision delay is not 0
  pub delay-some : 1 ≤ delay_of c
  delay-some = let g = accepted-good c x out e in let d = delay-13 g.settings g.lag in omega arith

  -- a frame is at most 320 samples
  pub frame-320 : count_of c * length_of c ≤ 320
  frame-320 = let s = (ready c x out e).sound in subframes-small (count_of c) (length_of c) s.few s.short

  -- as many pulses are handed out as there are samples
  pub pulses-long : (rule : Rule) → length (outcome rule c x out).pulses ≡ count_of c * length_of c
  pulses-long rule =
      let r = ready c x out e in
      let s = c.state in
      let same = agree-unread c x out out s.sLTP_buf_idx s.sLTP_shp_buf_idx s.rewhite_flag refl in
      ap (λ (o : Outcome). length o.pulses) (outcome-is rule c x out ∙ accepted-by rule c x out (answered c x out) e)
      ∙ (frame_same c c x x out out same r rule).long
      ∙ r.pulses

  -- a flush in the middle comes when two subframes are done
  pub midway : (k : ℕ) → k < count_of c → Midway (second c k) (fix_of c k) (count_of c * length_of c) (k * length_of c)
  unfolding fix_by
  midway k h =
      let two : second c k ≡ true → k * length_of c ≡ 2 * length_of c = λ z. ap (λ (y : ℕ). y * length_of c) (second_is (given_of c) k z).0 in
      record {
        few = (ready c x out e).sound.delay40;
        two = two;
        within = λ z. omega (arith, subframe-within (length_of c) h, two z);
      }

  -- the offset of each subframe is one of the table
  pub tabled : SFits w32 c.settings.Lambda_Q10 → (k : ℕ) → Tabled (fix_of c k)
  unfolding fix_by given_by
  tabled fit k =
      let g = kinds-in-range in
      record {
        kind = nat_z c.settings.signalType;
        type = nat_z c.settings.quantOffsetType;
        kind2 = g.0.most;
        type1 = g.1.most;
        offset = refl;
        lambda = fit;
      }
