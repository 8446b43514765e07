-- What an accepted call may rely on, as facts on counts. Assumes nothing.
use Prim.Native.Nat.{ℕ, ◌+◌, ◌*◌, ◌<◌, ◌≤◌}
use native.Mathlib.Omega.{arith}
use mathlib.Core.Path.{◌≡◌, refl}
use mathlib.Core.Bool.{Bool, true, false}
use mathlib.Core.List.{List}
use lib.ListN.{length}
use lib.IntN.{ℤ, pos}
use borrow.Author.Tests.{lt-ltb}
use Rattle.fixed.specs.Iter.{either}
use Rattle.silk.specs.declared.structs.Settings.{Settings}
use Rattle.fixed.specs.Row.{word}
use Rattle.refusal_rules.specs.Code.{code_of}
use Rattle.limits.specs.Count.{nat_z, same_z}
use Rattle.refusal_rules.specs.Good.{GoodSettings, GoodLags, Good}
use Rattle.refusal_rules.proofs.Room.{lag-above, quiet-above}
use Rattle.steps.specs.Call.{Call, voiced_by, lowered, voiced_delay, quiet_delay, delay_by, given_by, given_of, length_of, count_of, delay_of, lag_by, lag_of, Sound}
use Rattle.steps.proofs.Sound.{sound-by, sound-of, counts}
use Rattle.steps.proofs.Outcomes.{accepted-good}
use Rattle.steps.specs.Entry.{answered}
use Rattle.steps.specs.Sizes.{sizes_of}

-- ---- the delay is behind the lag that is used, where one is: not voiced too
quiet-early : (l prev : ℕ) → 16 ≤ prev → quiet_delay l prev + 3 ≤ prev
unfolding quiet_delay lowered
quiet-early l prev h = rw (lt-ltb 0 prev (omega arith)) (omega arith)

early-by : {s : Settings} {p : ℤ} {lags : List ℤ} → GoodSettings s → GoodLags (nat_z s.nb_subfr) s.subfr_length s.signalType p lags
    → (k : ℕ) → k < nat_z s.nb_subfr → 0 < lag_by (given_by s p lags) lags k → (given_by s p lags).delay + 3 ≤ lag_by (given_by s p lags) lags k
unfolding lag_by given_by voiced_by delay_by
early-by {s} {p} {lags} g h k b = go (same_z s.signalType (pos 2)) refl
  where
    go : (v : Bool) → same_z s.signalType (pos 2) ≡ v → 0 < either v (nat_z (word lags k)) (nat_z p)
        → either v (voiced_delay (nat_z s.subfr_length) (nat_z s.nb_subfr) lags) (quiet_delay (nat_z s.subfr_length) (nat_z p)) + 3 ≤ either v (nat_z (word lags k)) (nat_z p)
    go true e q = rw e at ((sound-by g h).early e k b)
    go false e q = quiet-early (nat_z s.subfr_length) (nat_z p) (lag-above g.l (quiet-above (h.prev e) q))

-- ---- all that is used of it
pub record Ready (c : Call) (x p : List ℤ) : Type 0 where
  pub sound : Sound (given_of c) c.pitchL
  pub early : (k : ℕ) → k < count_of c → 0 < lag_of c k → delay_of c + 3 ≤ lag_of c k
  pub tilts : length c.Tilt_Q14 ≡ count_of c
  pub lags : length c.pitchL ≡ count_of c
  pub pulses : length p ≡ count_of c * length_of c

ready_of : (c : Call) (x p : List ℤ) → Good c.settings (sizes_of c x p) c.state.lagPrev c.state.prev_gain_Q16 c.Gains_Q16 c.pitchL → Ready c x p
unfolding sizes_of
ready_of c x p g =
    let n = counts c.settings c.state.lagPrev c.pitchL in
    record {
      sound = sound-of c g;
      early = λ k h. early-by g.settings g.lag k (rw n.count at h);
      tilts = rw n.count g.rows.tilt;
      lags = rw n.count g.rows.lags;
      pulses = rw (n.count, n.length) g.rows.pulses;
    }

-- a call with number 0 has all of it
pub ready : (c : Call) (x p : List ℤ) → code_of (answered c x p) ≡ 0 → Ready c x p
ready c x p e = ready_of c x p (accepted-good c x p e)
