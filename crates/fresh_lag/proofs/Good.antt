-- The lag of a fresh state is good for every subframe length, so no first frame is refused for it; and it leaves the decision delay as it was.
-- Assumes nothing.
use Prim.Native.Nat.{ℕ, min}
use native.Mathlib.Omega.{arith}
use mathlib.Core.Path.{◌≡◌, refl}
use mathlib.Core.Bool.{Bool, true, false, not}
use mathlib.Core.List.{List}
use lib.IntN.{ℤ, pos}
use borrow.Author.Tests.{not-false}
use Rattle.silk.specs.State.{fresh_lag, fresh_state}
use Rattle.silk.specs.declared.structs.Settings.{Settings}
use Rattle.limits.specs.Tests.{outside, length_allowed, count_allowed, lengths_refused, lag_refused, quiet_lag_refused, lags_refused}
use Rattle.limits.proofs.Laws.{same_true, or-false, or_elim}
use Rattle.refusal_rules.specs.declared.answer.Sizes.{Sizes}
use Rattle.refusal_rules.specs.Table.{table, answer_of}
use Rattle.steps.specs.Call.{Call, lowered, quiet_delay, delay_by, given_by, delay_of}
use Rattle.steps.specs.Entry.{answered}
use Rattle.steps.specs.Sizes.{sizes_of}
use Rattle.fresh_lag.specs.Lags.{from, lagged, old_lag, first, first_before}

-- ---- good for every length
-- by computing, for each of the three
pub good-for-each : (lag_refused (pos 40) fresh_lag ≡ false) × (lag_refused (pos 60) fresh_lag ≡ false) × (lag_refused (pos 80) fresh_lag ≡ false)
unfolding lag_refused outside fresh_lag
good-for-each = (refl, refl, refl)

-- so for every L that is allowed
pub good-lag : (l : ℤ) → length_allowed l ≡ true → lag_refused l fresh_lag ≡ false
unfolding length_allowed
good-lag l e =
    or_elim (λ b. or_elim (λ a. rw (same_true l (pos 40) a) good-for-each.0) (λ a. rw (same_true l (pos 60) a) good-for-each.1) b)
    (λ a. rw (same_true l (pos 80) a) good-for-each.2)
    e

-- ---- no first frame is refused for it
quiet_same : (l : ℤ) → length_allowed l ≡ true → quiet_lag_refused l fresh_lag ≡ quiet_lag_refused l old_lag
unfolding quiet_lag_refused fresh_lag old_lag
quiet_same l e = good-lag l e

lags-same : (l kind : ℤ) (lags : List ℤ) → length_allowed l ≡ true → lags_refused l kind fresh_lag lags ≡ lags_refused l kind old_lag lags
unfolding lags_refused
lags-same l kind lags e = rw (quiet_same l e) refl

allowed : (l n : ℤ) → lengths_refused l n ≡ false → length_allowed l ≡ true
unfolding lengths_refused
allowed l n e = not-false _ (or-false (not (length_allowed l)) (not (count_allowed n)) e).0

-- the number that the table gives is the same with both lags, whether L is allowed or not
answer-same : (s : Settings) (z : Sizes) (gain : ℤ) (gains lags : List ℤ) → answer_of s z fresh_lag gain gains lags ≡ answer_of s z old_lag gain gains lags
unfolding answer_of table
answer-same s z gain gains lags = go (lengths_refused s.subfr_length s.nb_subfr) refl
  where
    go : (b : Bool) → lengths_refused s.subfr_length s.nb_subfr ≡ b → answer_of s z fresh_lag gain gains lags ≡ answer_of s z old_lag gain gains lags
    go true e = rw e refl
    go false e = rw (lags-same s.subfr_length s.signalType lags (allowed s.subfr_length s.nb_subfr e)) refl

-- a first frame gets the number that it got before, whatever it is
pub same_answer : (c : Call) (x p : List ℤ) → answered (first c) x p ≡ answered (first_before c) x p
unfolding answered sizes_of first first_before lagged from fresh_state
same_answer c x p = answer-same c.settings (sizes_of c x p) fresh_state.prev_gain_Q16 c.Gains_Q16 c.pitchL

-- ---- the delay
delay-of-lag : (l : ℕ) → min (min 40 l) 97 ≡ min 40 l
delay-of-lag l = omega arith

-- D is what it was
pub same-delay : (c : Call) → delay_of (first c) ≡ delay_of (first_before c)
unfolding given_by delay_by quiet_delay lowered first first_before lagged from fresh_state fresh_lag old_lag
same-delay c = rw (delay-of-lag _) refl
