-- Where the two candidates stand: the residual leaves room enough on either side of them, by the rule's plain floor for Lambda up to 1104 and by its
-- rounding towards zero for Lambda from 2049 on. Assumes nothing.
use Prim.Native.Nat.{ℕ, zero, suc, ◌+◌, ◌*◌, ◌/◌, ◌≤◌, ◌<◌}
use native.Mathlib.Omega.{arith}
use mathlib.Core.Path.{◌≡◌, refl}
use mathlib.Core.Bool.{true, false}
use mathlib.Core.Logic.{inl, inr}
use lib.IntN.{ℤ, pos, negsuc, neg_ℤ, ◌+ℤ◌, ◌-ℤ◌}
use lib.Dec.{lit<}
use lib.Signed.{lt_z, shr_z, quot_z, ◌≤ℤ◌}
use Rattle.fixed.specs.Wrap.{mod_z}
use Rattle.fixed.proofs.Lin.{P, N, add-lin, sub-lin-Z, neg-lin, shr-lin, mod-lin, le-lin, le-of-lin, lt-true, lt-false}
use Rattle.fixed.proofs.Iters.{either-all}
use Rattle.choice.specs.RuleChoice.{rounded, lower_of}
use Rattle.cheapest.specs.Cheapest.{greatest_modest, ModestLambda, HighLambda, FairLambda}
use Rattle.cheapest.proofs.Levels.{Margin}

-- the lower candidate lo for q, the residual less the offset: t is what q lies above 1024lo; the upper candidate is lo + 1
pub record Room (l : ℕ) (q lo : ℤ) : Type 0 where
  pub t : ℤ
  pub is : P q + 1024 * N lo + N t ≡ N q + 1024 * P lo + P t
  pub below : Margin l lo t
  pub above : Margin l (neg_ℤ (lo +ℤ pos 1)) (pos 1024 -ℤ t)

-- room enough at every pulse, also at one above zero, where the price is against it
margin-any : (l : ℕ) (p t : ℤ) → N t ≤ P t → l + 2 * N t ≤ 2 * P t + 1104 → Margin l p t
margin-any l (pos zero) t h k = omega arith
margin-any l (pos (suc n)) t h k = omega arith
margin-any l (negsuc n) t h k = omega arith

-- room enough at a pulse below zero, where the price helps
margin-negative : (l : ℕ) (p t : ℤ) → P p < N p → 2 * N t ≤ 2 * P t + 784 + l → Margin l p t
margin-negative l (pos n) t h k = absurd (omega arith)
margin-negative l (negsuc n) t h k = k

-- ---- the plain floor
-- it is the lower candidate as far as 2048
pub lower-floor : (q Lambda : ℤ) → Lambda ≤ℤ pos 2048 → lower_of q Lambda ≡ shr_z q 1024
unfolding lower_of
lower-floor q Lambda h =
    either-all (λ z. z ≡ shr_z q 1024) (lt_z (pos 2048) Lambda) _ _ (λ e. absurd (omega (arith, lt-true (pos 2048) Lambda e, le-lin h))) (λ e. refl)

floor-room : (l : ℕ) (q : ℤ) → l ≤ greatest_modest → Room l q (shr_z q 1024)
floor-room l q h =
    let lo = shr_z q 1024 in
    let t = pos (mod_z q 1024) in
    let m = mod-lin q 1024 (lit< tt) in
    let a = sub-lin-Z (pos 1024) t in
    record {
      t = t;
      is = omega (arith, shr-lin q 1024 (lit< tt));
      below = margin-any l lo t (omega arith) (omega arith);
      above = margin-any l (neg_ℤ (lo +ℤ pos 1)) (pos 1024 -ℤ t) (omega arith) (omega arith);
    }

-- ---- the rounding towards zero, d = Lambda / 2 - 512
module _ (l : ℕ) (q d : ℤ) (some : 512 + N d ≤ P d) (least : l + 2 * N d ≤ 2 * P d + 1025) (most : 2 * P d + 1024 ≤ l + 2 * N d) where
  -- q is above d: the lower candidate is not negative
  less-room : lt_z d q ≡ true → Room l q (shr_z (q -ℤ d) 1024)
  less-room e =
      let lo = shr_z (q -ℤ d) 1024 in
      let t = d +ℤ pos (mod_z (q -ℤ d) 1024) in
      let i = lt-true d q e in
      let z = sub-lin-Z q d in
      let s = shr-lin (q -ℤ d) 1024 (lit< tt) in
      let m = mod-lin (q -ℤ d) 1024 (lit< tt) in
      let b = add-lin d (pos (mod_z (q -ℤ d) 1024)) in
      let a = sub-lin-Z (pos 1024) t in
      let u = add-lin lo (pos 1) in
      let n = neg-lin (lo +ℤ pos 1) in
      record {
        t = t;
        is = omega arith;
        below = margin-any l lo t (omega arith) (omega arith);
        above = margin-negative l (neg_ℤ (lo +ℤ pos 1)) (pos 1024 -ℤ t) (omega arith) (omega arith);
      }

  -- q is below -d: the lower candidate is negative
  more_room : lt_z q (neg_ℤ d) ≡ true → Room l q (shr_z (q +ℤ d) 1024)
  more_room e =
      let lo = shr_z (q +ℤ d) 1024 in
      let t = pos (mod_z (q +ℤ d) 1024) -ℤ d in
      let i = lt-true q (neg_ℤ d) e in
      let j = neg-lin d in
      let z = add-lin q d in
      let s = shr-lin (q +ℤ d) 1024 (lit< tt) in
      let m = mod-lin (q +ℤ d) 1024 (lit< tt) in
      let b = sub-lin-Z (pos (mod_z (q +ℤ d) 1024)) d in
      let a = sub-lin-Z (pos 1024) t in
      record {
        t = t;
        is = omega arith;
        below = margin-negative l lo t (omega arith) (omega arith);
        above = margin-any l (neg_ℤ (lo +ℤ pos 1)) (pos 1024 -ℤ t) (omega arith) (omega arith);
      }

  -- between the two: the candidates are -1 and 0, or 0 and 1
  minus-one-room : lt_z q (neg_ℤ d) ≡ false → lt_z q (pos 0) ≡ true → Room l q (negsuc 0)
  minus-one-room e f =
      let i = lt-false q (neg_ℤ d) e in
      let j = neg-lin d in
      let k = lt-true q (pos 0) f in
      let t = q +ℤ pos 1024 in
      let b = add-lin q (pos 1024) in
      let a = sub-lin-Z (pos 1024) t in
      record { t = t; is = omega arith; below = omega arith; above = omega arith }

  zero_room : lt_z d q ≡ false → lt_z q (pos 0) ≡ false → Room l q (pos 0)
  zero_room e f =
      let i = lt-false d q e in
      let k = lt-false q (pos 0) f in
      let a = sub-lin-Z (pos 1024) q in
      record { t = q; is = omega arith; below = omega arith; above = omega arith }

  rounded-room : Room l q (rounded q d)
  unfolding rounded
  rounded-room =
      either-all (Room l q) (lt_z d q) _ _ less-room (λ e.
      either-all (Room l q) (lt_z q (neg_ℤ d)) _ _ more_room (λ f.
      either-all (Room l q) (lt_z q (pos 0)) _ _ (minus-one-room f) (zero_room e)))

high-room : (q Lambda : ℤ) → HighLambda Lambda → Room (P Lambda) q (lower_of q Lambda)
unfolding lower_of
high-room q (pos n) h =
    let i = le-lin h.low in
    let d = sub-lin-Z (pos (n / 2)) (pos 512) in
    either-all (Room n q) (lt_z (pos 2048) (pos n)) _ _
    (λ e. rounded-room n q (quot_z (pos n) (pos 2) -ℤ pos 512) (omega arith) (omega arith) (omega arith))
    (λ e. absurd (omega (arith, lt-false (pos 2048) (pos n) e)))
high-room q (negsuc n) h = absurd h.low.le

modest-room : (q Lambda : ℤ) → ModestLambda Lambda → Room (P Lambda) q (lower_of q Lambda)
modest-room q (pos n) h =
    let i = le-lin h.high in
    rw (lower-floor q (pos n) (le-of-lin (pos n) (pos 2048) (omega arith))) (floor-room n q (omega arith))
modest-room q (negsuc n) h = absurd h.low.le

-- ---- both
pub lower-room : (q Lambda : ℤ) → FairLambda Lambda → Room (P Lambda) q (lower_of q Lambda)
lower-room q Lambda (inl h) = modest-room q Lambda h
lower-room q Lambda (inr h) = high-room q Lambda h
