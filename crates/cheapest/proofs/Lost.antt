-- With each Lambda from 1105 to 2048 something is lost, so 1104 can't be raised; and for which Lambdas nothing is, exactly. Assumes nothing.
use Prim.Native.Nat.{ℕ, suc, ◌+◌, ◌*◌, ◌/◌, ◌≤◌, ◌<◌}
use native.Mathlib.Omega.{arith}
use native.Mathlib.Decide.{dec_lt}
use mathlib.Core.Path.{◌≡◌, refl}
use mathlib.Core.Logic.{inl, inr}
use lib.IntN.{ℤ, pos, negsuc, ◌-ℤ◌}
use lib.Dec.{lt→ltb}
use lib.Signed.{lt_z, shr_z, ◌≤ℤ◌, ◌<ℤ◌, le_z_yes, lt_z_yes, clash_ℤ}
use Rattle.fixed.proofs.Lin.{P, N, le-lin, le-of-lin}
use Rattle.fixed.proofs.Iters.{either-all}
use Rattle.residuals.specs.Offset.{offset_of}
use Rattle.choice.specs.declared.candidate.Choice.{Choice}
use Rattle.choice.specs.RustChoice.{ordered}
use Rattle.choice.specs.RuleChoice.{level_of, cost_of, between, ruled}
use Rattle.choice.proofs.Table.{table-all}
use Rattle.cheapest.specs.Cheapest.{pulse_cost, Cheapest, NothingLost, LambdaIn, greatest_modest, LossyLambda, FairLambda}
use Rattle.cheapest.proofs.Levels.{sum_at}
use Rattle.cheapest.proofs.Costs.{lambda-in, pulse-is, cost-is}
use Rattle.cheapest.proofs.Pairs.{lower-floor}
use Rattle.cheapest.proofs.Theorems.{fair-loses-nothing}

-- ---- something is lost
-- what undercuts both candidates undercuts the first
undercut : (q1 c1 q2 c2 z : ℤ) → z <ℤ c1 → z <ℤ c2 → (ordered q1 c1 q2 c2).first_cost ≤ℤ z → ⊥
unfolding ordered
undercut q1 c1 q2 c2 z h k =
    either-all (λ (c : Choice). c.first_cost ≤ℤ z → ⊥) (lt_z c1 c2) _ _ (λ e. clash_ℤ h) (λ e. clash_ℤ k)

-- pulse 0 at a residual where 1 and 2 are looked at
module _ (Lambda o r : ℤ) (lossy : LossyLambda Lambda) (pair : shr_z (r -ℤ o) 1024 ≡ pos 1) where
  -- what a pulse costs, before the division
  abbrev sum : ℤ → ℕ
  sum p = sum_at (P Lambda) r (level_of o p)

  cheaper : (p : ℤ) → sum (pos 0) / 1024 < sum p / 1024 → pulse_cost r Lambda o (pos 0) <ℤ cost_of Lambda r (level_of o p)
  cheaper p h =
      let plain = lambda-in 0 32767 lossy (omega arith) (omega arith) in
      rw (pulse-is r Lambda o (pos 0), cost-is r Lambda (level_of o (pos 0)) plain, cost-is r Lambda (level_of o p) plain)
      (lt_z_yes (lt→ltb (sum (pos 0) / 1024) (sum p / 1024) h))

  lost : sum (pos 0) / 1024 < sum (pos 1) / 1024 → sum (pos 0) / 1024 < sum (pos 2) / 1024 → Cheapest r Lambda o (ruled r Lambda o) → ⊥
  unfolding ruled between
  lost h k c =
      undercut _ _ _ _ _ (cheaper (pos 1) h) (cheaper (pos 2) k)
      (rw (lower-floor (r -ℤ o) Lambda lossy.high, pair) at (c.least (pos 0)))

-- the floors at the offset o: pulse 0 against pulse 1. At 1105 it hangs on what is left by the division, from 1106 on the sums are more than 1024 apart
floors-apart : (o l : ℕ) → (o * 1105 + 1048576) / 1024 < ((944 + o) * 1105 + 6400) / 1024 → 1105 ≤ l → Dec (1105 < l)
    → (o * l + 1048576) / 1024 < ((944 + o) * l + 6400) / 1024
floors-apart o l h k (yes m) = omega arith
floors-apart o l h k (no m) = let e : l ≡ 1105 = omega arith in rw e h

-- with each Lambda from 1105 to 2048 and at each entry of the table something is lost: at the residual 1024 above the offset pulse 0 is cheaper than the
-- first candidate and isn't looked at. So no bound above 1104 will do
pub lossy-loses : (signalType offset_type : ℕ) → signalType ≤ 2 → offset_type ≤ 1 → (Lambda : ℤ) → LossyLambda Lambda
    → NothingLost Lambda (offset_of signalType offset_type) → ⊥
unfolding level_of
lossy-loses signalType offset_type type kind (pos l) h =
    let i = le-lin h.low in
    let later = dec_lt 1105 l in
    table-all (λ o. NothingLost (pos l) o → ⊥)
    (λ f. lost (pos l) (pos 100) (pos 1124) h refl (floors-apart 100 l (omega arith) (omega arith) later) (omega arith) (f (pos 1124) (le_z_yes tt) (le_z_yes tt)))
    (λ f. lost (pos l) (pos 240) (pos 1264) h refl (floors-apart 240 l (omega arith) (omega arith) later) (omega arith) (f (pos 1264) (le_z_yes tt) (le_z_yes tt)))
    (λ f. lost (pos l) (pos 32) (pos 1056) h refl (floors-apart 32 l (omega arith) (omega arith) later) (omega arith) (f (pos 1056) (le_z_yes tt) (le_z_yes tt)))
    signalType
    offset_type
    type
    kind
lossy-loses signalType offset_type type kind (negsuc l) h = absurd h.low.le

-- ---- for which Lambdas nothing is lost
-- of those from 0 to 32767: exactly up to 1104 and from 2049 on, at each entry of the table
module _ (signalType offset_type : ℕ) (type : signalType ≤ 2) (kind : offset_type ≤ 1) (Lambda : ℤ) (plain : LambdaIn 0 32767 Lambda) where
  only-fair : NothingLost Lambda (offset_of signalType offset_type) → Dec (greatest_modest + N Lambda < P Lambda) → Dec (2048 + N Lambda < P Lambda) → FairLambda Lambda
  only-fair f (no h) d = inl (record { low = plain.low; high = le-of-lin Lambda (pos greatest_modest) (omega arith) })
  only-fair f (yes h) (yes k) = inr (record { low = le-of-lin (pos 2049) Lambda (omega arith); high = plain.high })
  only-fair f (yes h) (no k) =
      absurd (
      lossy-loses signalType offset_type type kind Lambda
      (record { low = le-of-lin (pos (suc greatest_modest)) Lambda (omega arith); high = le-of-lin Lambda (pos 2048) (omega arith) })
      f)

  pub exactly-fair :
      (FairLambda Lambda → NothingLost Lambda (offset_of signalType offset_type)) × (NothingLost Lambda (offset_of signalType offset_type) → FairLambda Lambda)
  exactly-fair = (
    fair-loses-nothing signalType offset_type type kind Lambda,
    λ f. only-fair f (dec_lt (greatest_modest + N Lambda) (P Lambda)) (dec_lt (2048 + N Lambda) (P Lambda)),
  )
