-- The marked examples of refusals (docs/RULES.md), and a call for each number, by computation: no statement on accepted or refused calls
-- is empty. Assumes nothing.
use Prim.Native.Nat.{ℕ, ◌+◌, ◌*◌}
use mathlib.Core.Path.{◌≡◌, refl}
use mathlib.Core.List.{List, [], ◌∷◌}
use lib.ListN.{replicate}
use lib.IntN.{ℤ, pos, negsuc}
use Rattle.silk.specs.declared.structs.Settings.{Settings}
use Rattle.refusal_rules.specs.declared.answer.Sizes.{Sizes}
use Rattle.refusal_rules.specs.Code.{code_of}
use Rattle.limits.specs.Count.{nat_z}
use Rattle.limits.specs.Tests.{outside, length_allowed, count_allowed, order_for, odd_z, lengths_refused, orders_refused, paths_refused, kinds_refused, gain_refused, some_gain, gains_refused, lag_refused, quiet_lag_refused, some_lag, last_of, lags_refused}
use Rattle.refusal_rules.specs.Table.{each_refused, rows_refused, table, answer_of}

-- the settings of a call: L, n, prediction order, path count, signal type; shaping order 2, all else 0
pub set : ℤ → ℤ → ℤ → ℤ → ℤ → Settings
set l n order paths kind =
    record {
      subfr_length = l;
      nb_subfr = n;
      predictLPCOrder = order;
      shapingLPCOrder = pos 2;
      nStatesDelayedDecision = paths;
      warping_Q16 = pos 0;
      signalType = kind;
      quantOffsetType = pos 0;
      NLSFInterpCoef_Q2 = pos 0;
      Seed = pos 0;
      Lambda_Q10 = pos 0;
      LTP_scale_Q14 = pos 0;
    }

-- the lengths of the rows of n subframes of L samples
pub sizes : ℕ → ℕ → Sizes
sizes l n =
    record { samples = n * l; pred_coef = 32; ltp_coef = 5 * n; ar = 24 * n; harm_gain = n; tilt = n; lf = n; pulses = n * l }

-- the same with more samples
pub with_samples : ℕ → Sizes → Sizes
with_samples more z =
    record { samples = more + z.samples; pred_coef = z.pred_coef; ltp_coef = z.ltp_coef; ar = z.ar; harm_gain = z.harm_gain; tilt = z.tilt; lf = z.lf; pulses = z.pulses }

-- the number of a call with L 40 and two subframes: order, paths, signal type, lagPrev, prev_gain_Q16, gains, lags
pub number : ℤ → ℤ → ℤ → ℤ → ℤ → List ℤ → List ℤ → ℕ
number order paths kind lagPrev gain gains lags = code_of (answer_of (set (pos 40) (pos 2) order paths kind) (sizes 40 2) lagPrev gain gains lags)

-- two words of a row
pub two : ℤ → ℤ → List ℤ
two a b = a ∷ b ∷ []

-- docs/RULES.md, "Marked examples", in its order: lags 16 and 144 with L 40 accepted, 15 and 145 refused 7; gain 1 accepted, 0 refused 6;
-- order 16 with L 40 refused 2, and with a path count of 0 also 2
pub marked-examples :
    (number (pos 10) (pos 1) (pos 2) (pos 0) (pos 65536) (two (pos 65536) (pos 65536)) (two (pos 16) (pos 144))
    ∷ number (pos 10) (pos 1) (pos 2) (pos 0) (pos 65536) (two (pos 65536) (pos 65536)) (two (pos 15) (pos 16))
    ∷ number (pos 10) (pos 1) (pos 2) (pos 0) (pos 65536) (two (pos 65536) (pos 65536)) (two (pos 144) (pos 145))
    ∷ number (pos 10) (pos 1) (pos 0) (pos 0) (pos 1) (two (pos 1) (pos 1)) (two (pos 0) (pos 0))
    ∷ number (pos 10) (pos 1) (pos 0) (pos 0) (pos 1) (two (pos 1) (pos 0)) (two (pos 0) (pos 0))
    ∷ number (pos 16) (pos 1) (pos 0) (pos 0) (pos 1) (two (pos 1) (pos 1)) (two (pos 0) (pos 0))
    ∷ number (pos 16) (pos 0) (pos 0) (pos 0) (pos 1) (two (pos 1) (pos 1)) (two (pos 0) (pos 0))
    ∷ [])
    ≡ (0 ∷ 7 ∷ 7 ∷ 0 ∷ 6 ∷ 2 ∷ 2 ∷ [])
unfolding set sizes number two outside length_allowed count_allowed order_for odd_z lengths_refused orders_refused paths_refused kinds_refused each_refused rows_refused gain_refused some_gain gains_refused lag_refused quiet_lag_refused some_lag last_of lags_refused table answer_of
marked-examples = refl

-- the number of a call with L, n, order, paths and signal type, its rows as long as they should be but for the samples
pub number_of : ℤ → ℤ → ℤ → ℤ → ℤ → ℕ → ℤ → ℤ → ℤ → ℤ → ℕ
number_of l n order paths kind more lagPrev prev gain lag =
    code_of
    (answer_of (set l n order paths kind) (with_samples more (sizes (nat_z l) (nat_z n))) lagPrev prev (replicate (nat_z n) gain) (replicate (nat_z n) lag))

-- each number is given to a call that is right in all else: L 80 and four subframes; prev_gain_Q16 is looked at; lagPrev is looked at
-- where the frame is not voiced, and not where it is; huge and negative settings have their answer
pub each_number :
    (number_of (pos 80) (pos 4) (pos 16) (pos 4) (pos 2) 0 (pos 7) (pos 1) (pos 1) (pos 288)
    ∷ number_of (pos 80) (pos 4) (pos 16) (pos 4) (pos 1) 0 (pos 32) (pos 1) (pos 1) (pos 0)
    ∷ number_of (pos 60) (pos 2) (pos 10) (pos 1) (pos 2) 0 (pos 0) (pos 1) (pos 1) (pos 24)
    ∷ number_of (pos 50) (pos 2) (pos 10) (pos 1) (pos 2) 0 (pos 0) (pos 1) (pos 1) (pos 24)
    ∷ number_of (pos 60) (pos 3) (pos 10) (pos 1) (pos 2) 0 (pos 0) (pos 1) (pos 1) (pos 24)
    ∷ number_of (negsuc 39) (negsuc 2147483647) (pos 10) (pos 1) (pos 2) 0 (pos 0) (pos 1) (pos 1) (pos 24)
    ∷ number_of (pos 80) (pos 4) (pos 10) (pos 4) (pos 2) 0 (pos 7) (pos 1) (pos 1) (pos 288)
    ∷ number_of (pos 80) (pos 4) (pos 16) (pos 5) (pos 3) 0 (pos 7) (pos 1) (pos 1) (pos 288)
    ∷ number_of (pos 80) (pos 4) (pos 16) (pos 4) (pos 3) 1 (pos 7) (pos 1) (pos 1) (pos 288)
    ∷ number_of (pos 80) (pos 4) (pos 16) (pos 4) (pos 2) 1 (pos 7) (pos 0) (pos 1) (pos 288)
    ∷ number_of (pos 80) (pos 4) (pos 16) (pos 4) (pos 2) 0 (pos 7) (pos 0) (pos 1) (pos 289)
    ∷ number_of (pos 80) (pos 4) (pos 16) (pos 4) (pos 2) 0 (pos 7) (pos 1) (negsuc 0) (pos 289)
    ∷ number_of (pos 80) (pos 4) (pos 16) (pos 4) (pos 2) 0 (pos 32) (pos 1) (pos 1) (pos 0)
    ∷ number_of (pos 80) (pos 4) (pos 16) (pos 4) (pos 1) 0 (pos 31) (pos 1) (pos 1) (pos 0)
    ∷ number_of (pos 80) (pos 4) (pos 16) (pos 4) (pos 1) 0 (pos 32) (pos 1) (pos 1) (negsuc 0)
    ∷ [])
    ≡ (0 ∷ 0 ∷ 0 ∷ 1 ∷ 1 ∷ 1 ∷ 2 ∷ 3 ∷ 4 ∷ 5 ∷ 6 ∷ 6 ∷ 7 ∷ 7 ∷ 7 ∷ [])
unfolding set sizes with_samples number_of outside length_allowed count_allowed order_for odd_z lengths_refused orders_refused paths_refused kinds_refused each_refused rows_refused gain_refused some_gain gains_refused lag_refused quiet_lag_refused some_lag last_of lags_refused table answer_of
each_number = refl
