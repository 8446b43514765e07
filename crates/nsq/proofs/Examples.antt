-- Calls that are accepted, by computation: voiced and not, of two and of four subframes, with one to four paths. So no statement on accepted calls is
-- empty.
-- Assumes nothing.
use Prim.Native.Nat.{ℕ, ◌*◌}
use mathlib.Core.Path.{◌≡◌, refl}
use mathlib.Core.List.{[], ◌∷◌}
use lib.ListN.{replicate}
use lib.IntN.{ℤ, pos}
use mir.Syntax.{w32}
use mir.Val.{SFits}
use mir.Facts.{sfits_lit}
use Rattle.silk.specs.State.{zeros, fresh_lag, fresh_state}
use Rattle.refusal_rules.specs.Code.{code_of}
use Rattle.limits.specs.Tests.{outside, length_allowed, count_allowed, order_for, odd_z, lengths_refused, orders_refused, paths_refused, kinds_refused, gain_refused, some_gain, gains_refused, lag_refused, quiet_lag_refused, some_lag, last_of, lags_refused}
use Rattle.refusal_rules.specs.Table.{each_refused, rows_refused, table, answer_of}
use Rattle.silk.specs.declared.structs.Settings.{Settings}
use Rattle.steps.specs.Call.{Call, call_of, given_by, paths_of}
use Rattle.steps.specs.Entry.{answered}
use Rattle.steps.specs.Sizes.{sizes_of}

-- the settings: shaping order 2, interpolation 4, all else that is not given 0
set : ℤ → ℤ → ℤ → ℤ → ℤ → Settings
set l n order paths kind =
    record {
      subfr_length = l;
      nb_subfr = n;
      predictLPCOrder = order;
      shapingLPCOrder = pos 2;
      nStatesDelayedDecision = paths;
      warping_Q16 = pos 0;
      signalType = kind;
      quantOffsetType = pos 0;
      NLSFInterpCoef_Q2 = pos 4;
      Seed = pos 0;
      Lambda_Q10 = pos 0;
      LTP_scale_Q14 = pos 0;
    }

-- silence from a fresh state: L, n, prediction order, path count, signal type, and the lag of each subframe
pub silent : ℕ → ℕ → ℕ → ℕ → ℤ → ℤ → Call
silent l n order paths kind lag =
    call_of (set (pos l) (pos n) (pos order) (pos paths) kind) fresh_state (zeros 32) (zeros (5 * n)) (zeros (24 * n)) (zeros n) (zeros n) (zeros n)
    (replicate n (pos 65536))
    (replicate n lag)

-- its number
pub number_of : ℕ → ℕ → ℕ → ℕ → ℤ → ℤ → ℕ
number_of l n order paths kind lag = code_of (answered (silent l n order paths kind lag) (zeros (n * l)) (zeros (n * l)))

-- voiced with two and with four subframes, then not voiced
pub accepted-examples :
    (number_of 40 2 10 1 (pos 2) (pos 16)
    ∷ number_of 80 4 16 4 (pos 2) (pos 288)
    ∷ number_of 60 2 10 2 (pos 0) (pos 0)
    ∷ number_of 80 4 16 3 (pos 1) (pos 100)
    ∷ [])
    ≡ (0 ∷ 0 ∷ 0 ∷ 0 ∷ [])
unfolding silent number_of set fresh_state fresh_lag zeros sizes_of answered outside length_allowed count_allowed order_for odd_z lengths_refused orders_refused paths_refused kinds_refused each_refused rows_refused gain_refused some_gain gains_refused lag_refused quiet_lag_refused some_lag last_of lags_refused table answer_of
accepted-examples = refl

-- each of these calls has the paths that it is given and an i32 Lambda, so what is said of such calls (requests E1 and E9) is not empty
pub paths-given : (l n order paths : ℕ) (kind lag : ℤ)
    → (paths_of (silent l n order paths kind lag) ≡ paths) × SFits w32 (silent l n order paths kind lag).settings.Lambda_Q10
unfolding silent set given_by
paths-given l n order paths kind lag = (refl, sfits_lit tt)
