-- Where the lower pulse lies: between zero and floor(q / 1024), for every Lambda. All that is known of the levels and costs follows.
-- Assumes nothing.
use Prim.Native.Nat.{◌+◌, ◌*◌, ◌/◌, ◌^◌, ◌≤◌, ◌<◌}
use native.Mathlib.Omega.{arith}
use mathlib.Core.Path.{◌≡◌}
use mathlib.Core.Bool.{true}
use lib.IntN.{ℤ, pos, negsuc, neg_ℤ, ◌+ℤ◌, ◌-ℤ◌}
use lib.Dec.{lit<}
use lib.Signed.{lt_z, shr_z, quot_z}
use mir.Syntax.{w32}
use mir.Val.{SFits}
use Rattle.fixed.proofs.Lin.{P, N, add-lin, sub-lin-Z, neg-lin, shr-lin, mod-lin, lt-true, lt-false}
use Rattle.fixed.proofs.Iters.{either-all}
use Rattle.choice.specs.RuleChoice.{rounded, lower_of}

-- q is not negative and 0 ≤ 1024p ≤ q, or q is negative, and so is p, and q < 1024p + 1024
pub data Toward (q p : ℤ) : Type 0 where
  up : N q ≤ P q → N p ≤ P p → 1024 * P p + N q ≤ P q + 1024 * N p → Toward q p
  down : P q < N q → P p < N p → P q + 1024 * N p < N q + 1024 * P p + 1024 → Toward q p

-- d = Lambda / 2 - 512 where Lambda is above 2048: from 512 to 2^30
pub bias-lin : (Lambda : ℤ) → SFits w32 Lambda → lt_z (pos 2048) Lambda ≡ true
    → (512 + N (quot_z Lambda (pos 2) -ℤ pos 512) ≤ P (quot_z Lambda (pos 2) -ℤ pos 512)) × (P (quot_z Lambda (pos 2) -ℤ pos 512) ≤ 2 ^ 30 + N (quot_z Lambda (pos 2) -ℤ pos 512))
bias-lin (pos n) f e = let h : n < 2 ^ 31 = f.sfits in omega (arith, lt-true (pos 2048) (pos n) e, sub-lin-Z (pos (n / 2)) (pos 512))
bias-lin (negsuc n) f e = absurd (omega (arith, lt-true (pos 2048) (negsuc n) e))

floor-toward : (q : ℤ) → Toward q (shr_z q 1024)
floor-toward (pos n) = let s = shr-lin (pos n) 1024 (lit< tt) in let m = mod-lin (pos n) 1024 (lit< tt) in up (omega arith) (omega arith) (omega arith)
floor-toward (negsuc n) =
    let s = shr-lin (negsuc n) 1024 (lit< tt) in let m = mod-lin (negsuc n) 1024 (lit< tt) in down (omega arith) (omega arith) (omega arith)

module _ (q d : ℤ) (bias : N d ≤ P d) where
  less-toward : lt_z d q ≡ true → Toward q (shr_z (q -ℤ d) 1024)
  less-toward e =
      let t = lt-true d q e in
      let z = sub-lin-Z q d in
      let s = shr-lin (q -ℤ d) 1024 (lit< tt) in
      let m = mod-lin (q -ℤ d) 1024 (lit< tt) in
      up (omega arith) (omega arith) (omega arith)

  more-toward : lt_z q (neg_ℤ d) ≡ true → Toward q (shr_z (q +ℤ d) 1024)
  more-toward e =
      let t = lt-true q (neg_ℤ d) e in
      let n = neg-lin d in
      let z = add-lin q d in
      let s = shr-lin (q +ℤ d) 1024 (lit< tt) in
      let m = mod-lin (q +ℤ d) 1024 (lit< tt) in
      down (omega arith) (omega arith) (omega arith)

  rounded-toward : Toward q (rounded q d)
  unfolding rounded
  rounded-toward =
      either-all (Toward q) (lt_z d q) _ _ less-toward (λ _.
      either-all (Toward q) (lt_z q (neg_ℤ d)) _ _ more-toward (λ _.
      either-all (Toward q) (lt_z q (pos 0)) _ _
      (λ e. let t = lt-true q (pos 0) e in down (omega arith) (omega arith) (omega arith))
      (λ e. let t = lt-false q (pos 0) e in up (omega arith) (omega arith) (omega arith))))

pub lower-toward : (q Lambda : ℤ) → SFits w32 Lambda → Toward q (lower_of q Lambda)
unfolding lower_of
lower-toward q Lambda f =
    either-all (Toward q) (lt_z (pos 2048) Lambda) _ _
    (λ e. let b = bias-lin Lambda f e in rounded-toward q (quot_z Lambda (pos 2) -ℤ pos 512) (omega arith))
    (λ _. floor-toward q)
