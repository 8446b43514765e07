-- `lag_limits::lags::lag_refused` meets its contract. Assumes nothing.
use mathlib.Core.Path.{◌≡◌, refl, sym}
use native.Mathlib.Omega.{arith}
use mathlib.Core.Bool.{Bool}
use Prim.Native.Nat.{ℕ, ◌^◌}
use lib.IntN.{ℤ, pos, ◌*ℤ◌}
use lib.Dec.{T, ltb}
use lib.Signed.{lt_z}
use mir.Syntax.{w32, w64}
use mir.Val.{SFits, to_z, of_z}
use Rattle.fixed.proofs.Fit.{read, fit-mul, fit32-64, lit32}
use Rattle.limits.specs.Tests.{lag_refused, outside}
use Rattle.lag_limits.proofs.lags.lag_refused.Goals as goal

-- a small multiple, as the code works it out in 64 bits
product : {z : ℤ} (k : ℕ) → T (ltb k (2 ^ 31)) → SFits w32 z → to_z w64 (of_z w64 (pos k *ℤ to_z w64 (of_z w64 (to_z w32 (of_z w32 z))))) ≡ pos k *ℤ z
product {z} k t f = rw (read f, read (fit32-64 f)) (read (fit-mul (pos k) z (lit32 (pos k) t) f))

-- a test of two such multiples
test : {a b : ℤ} {t : Bool} (j k : ℕ) → T (ltb j (2 ^ 31)) → T (ltb k (2 ^ 31)) → SFits w32 a → SFits w32 b
    → lt_z (to_z w64 (of_z w64 (pos j *ℤ to_z w64 (of_z w64 (to_z w32 (of_z w32 a)))))) (to_z w64 (of_z w64 (pos k *ℤ to_z w64 (of_z w64 (to_z w32 (of_z w32 b)))))) ≡ t
    → lt_z (pos j *ℤ a) (pos k *ℤ b) ≡ t
test j k u v f g e = rw (product j u f, product k v g) at e

pub returns-then-lag-l : goal.returns-then-lag-l
unfolding lag_refused outside
returns-then-lag-l c =
    let f = c.ranges in
    let lag : SFits w32 c.args.lag.now = record { sfits = omega arith } in
    rw (test 5 2 tt tt lag f.l c.if-lag-l.true, c.if-lag-l.true)

pub returns-else-lag-l : goal.returns-else-lag-l
unfolding lag_refused outside
returns-else-lag-l c =
    let f = c.ranges in
    let lag : SFits w32 c.args.lag.now = record { sfits = omega arith } in
    rw (test 5 2 tt tt lag f.l c.if-lag-l.false) (sym (test 18 5 tt tt f.l lag refl))
