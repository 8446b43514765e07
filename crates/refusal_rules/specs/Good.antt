-- What is known of a call that was accepted, as facts on counts: everything that the frame goes by. L and n stand for the
-- counts of `subfr_length` and `nb_subfr`. Of L only these facts are used above, never its three values.
-- Assumes nothing.
use Rattle.std.specs.Prelude.{ℕ, ◌+◌, ◌-◌, ◌*◌, ◌%◌, ◌≤◌, ◌<◌, ◌≡◌, true, false, List, ◌⊎◌, get_or, length, ℤ, pos, ◌≤ℤ◌}
use Rattle.silk.specs.declared.structs.Settings.{Settings}
use Rattle.limits.specs.Count.{nat_z, same_z}
use Rattle.refusal_rules.specs.declared.answer.Sizes.{Sizes}

-- z is a count from lo to hi
pub record Among (lo hi : ℕ) (z : ℤ) : Type 0 where
  pub counts : z ≡ pos (nat_z z)
  pub least : lo ≤ nat_z z
  pub most : nat_z z ≤ hi

-- L: 2L/5 and 18L/5 are whole, and so is L/20
pub record GoodLength (l : ℤ) : Type 0 where
  pub among : Among 40 80 l
  pub whole : nat_z l % 20 ≡ 0

-- n is 2 or 4
pub record GoodCount (n : ℤ) : Type 0 where
  pub among : Among 2 4 n
  pub even : nat_z n % 2 ≡ 0

-- the prediction order is 10 or 16, and small beside L: a history of 4L words has room for a lag of 18L/5, the order and 2 more
pub record GoodOrder (l order : ℤ) : Type 0 where
  pub among : Among 10 16 order
  pub either : (nat_z order ≡ 10) ⊎ (nat_z order ≡ 16)
  pub room : 5 * (nat_z order + 2) < 2 * nat_z l

-- the shaping order is even, 2 to 24
pub record GoodShaping (shaping : ℤ) : Type 0 where
  pub among : Among 2 24 shaping
  pub even : nat_z shaping % 2 ≡ 0

-- a lag from 2L/5 to 18L/5
pub record GoodLag (l lag : ℤ) : Type 0 where
  pub counts : lag ≡ pos (nat_z lag)
  pub least : 2 * nat_z l ≤ 5 * nat_z lag
  pub most : 5 * nat_z lag ≤ 18 * nat_z l

-- what is looked at where the frame is not voiced: 0, or a good lag
abbrev pub QuietLag : ℤ → ℤ → Type 0
QuietLag l lag = (lag ≡ pos 0) ⊎ GoodLag l lag

-- the settings
pub record GoodSettings (s : Settings) : Type 0 where
  pub l : GoodLength s.subfr_length
  pub n : GoodCount s.nb_subfr
  pub order : GoodOrder s.subfr_length s.predictLPCOrder
  pub shaping : GoodShaping s.shapingLPCOrder
  pub paths : Among 1 4 s.nStatesDelayedDecision
  pub kind : Among 0 2 s.signalType
  pub offset : Among 0 1 s.quantOffsetType
  pub interp : Among 0 4 s.NLSFInterpCoef_Q2
  pub seed : Among 0 3 s.Seed

-- the lengths of the ten rows
pub record GoodRows (l n : ℕ) (z : Sizes) (gain_count lag_count : ℕ) : Type 0 where
  pub samples : z.samples ≡ n * l
  pub pred-coef : z.pred_coef ≡ 32
  pub ltp-coef : z.ltp_coef ≡ 5 * n
  pub ar : z.ar ≡ 24 * n
  pub pulses : z.pulses ≡ n * l
  pub harm-gain : z.harm_gain ≡ n
  pub tilt : z.tilt ≡ n
  pub lf : z.lf ≡ n
  pub gains : gain_count ≡ n
  pub lags : lag_count ≡ n

-- the gains
pub record GoodGains (n : ℕ) (prev_gain_Q16 : ℤ) (gains : List ℤ) : Type 0 where
  pub prev : pos 1 ≤ℤ prev_gain_Q16
  pub each : (k : ℕ) → k < n → pos 1 ≤ℤ get_or gains k (pos 0)

-- the lags, voiced (type 2) or not
pub record GoodLags (n : ℕ) (l kind lagPrev : ℤ) (lags : List ℤ) : Type 0 where
  pub voiced : same_z kind (pos 2) ≡ true → (k : ℕ) → k < n → GoodLag l (get_or lags k (pos 0))
  pub prev : same_z kind (pos 2) ≡ false → QuietLag l lagPrev
  pub last : same_z kind (pos 2) ≡ false → QuietLag l (get_or lags (n - 1) (pos 0))

-- all of a call
pub record Good (s : Settings) (z : Sizes) (lagPrev prev_gain_Q16 : ℤ) (gains lags : List ℤ) : Type 0 where
  pub settings : GoodSettings s
  pub rows : GoodRows (nat_z s.subfr_length) (nat_z s.nb_subfr) z (length gains) (length lags)
  pub gain : GoodGains (nat_z s.nb_subfr) prev_gain_Q16 gains
  pub lag : GoodLags (nat_z s.nb_subfr) s.subfr_length s.signalType lagPrev lags
