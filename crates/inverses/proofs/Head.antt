-- Laws of the normalisation: a number from 1 up, moved up until its top bit is bit 30. Assumes nothing.
use mathlib.Core.Path.{◌≡◌, sym, ap, ◌∙◌, subst⁻¹}
use Prim.Native.Nat.{ℕ, suc, ◌+◌, ◌-◌, ◌*◌, ◌/◌, ◌%◌, ◌^◌, ◌≤◌, ◌<◌}
use native.Mathlib.Omega.{arith}
use native.Mathlib.Nat.{mul-le-mul_right, mul-lt-mul_of_pos_right, div-le_self, lt_of_le_of_lt, mod-eq_of_lt}
use native.Mathlib.Decide.{dec_le}
use lib.IntN.{ℤ, pos, negsuc}
use lib.Count.{count_leading_zeros, leading_top}
use lib.Dec.{lit<, leb→le, le→leb}
use lib.Pow.{pow-add, pow_pos, pow_mono}
use lib.Signed.{◌≤ℤ◌}
use borrow.Author.Tests.{lt-ltb, le-ltb}
use mir.Syntax.{w32}
use mir.Val.{SFits, of_z}
use Rattle.fixed.specs.Range.{abs32}
use Rattle.fixed.specs.Shift.{clz32, shl32, shr}
use Rattle.fixed.proofs.Wraps.{wrap32-id}
use Rattle.word_steps.specs.Inlines.{headrm, nrm, b32_inv}

small : (j a : ℕ) → 2 ^ j ≤ a → a < 2 ^ 31 → j ≤ 30
small j a h k = go (dec_le j 30)
  where
    go : Dec (j ≤ 30) → j ≤ 30
    go (yes p) = p
    go (no f) = absurd (let q : 2 ^ 31 ≤ 2 ^ j = pow_mono {i = 31} {j = j} (omega arith) in omega arith)

-- h zeros lead the 32 bits of a: it can go up by h - 1
pub record Room (a h : ℕ) : Type 0 where
  pub some : 1 ≤ h
  pub most : h ≤ 31
  pub low : 2 ^ 30 ≤ a * 2 ^ (h - 1)
  pub high : a * 2 ^ (h - 1) < 2 ^ 31

by-top : (a z j : ℕ) → z + suc j ≡ 32 → 2 ^ j ≤ a → a < 2 ^ suc j → a < 2 ^ 31 → Room a z
by-top a z j e l u h =
    let s = small j a l h in
    let k : j + (z - 1) ≡ 30 = omega arith in
    let m : suc j + (z - 1) ≡ 31 = omega arith in
    let p = sym (pow-add 2 j (z - 1)) ∙ ap (λ (i : ℕ). 2 ^ i) k in
    let q = sym (pow-add 2 (suc j) (z - 1)) ∙ ap (λ (i : ℕ). 2 ^ i) m in
    record {
      some = omega arith;
      most = omega arith;
      low = omega (arith, p, mul-le-mul_right (2 ^ (z - 1)) l);
      high = omega (arith, q, mul-lt-mul_of_pos_right u (pow_pos (z - 1)));
    }

lead : (n : ℕ) → 0 < n → count_leading_zeros 32 n ≡ clz32 (abs32 (pos n))
unfolding clz32 abs32
lead n h = rw (lt-ltb 0 n h, le-ltb n 0 (omega arith))

room_of : (n : ℕ) → 0 < n → n < 2 ^ 31 → Room n (clz32 (abs32 (pos n)))
room_of n p h =
    let t = leading_top 32 n p (omega arith) in
    rw (← lead n p) (by-top n (count_leading_zeros 32 n) t.0 t.1 t.2 t.3 h)

-- the zeros that lead a number from 1 up are 1 to 31
pub room : (x : ℤ) → pos 1 ≤ℤ x → SFits w32 x → (1 ≤ clz32 (abs32 x)) × (clz32 (abs32 x) ≤ 31)
room (pos n) h f = let r = room_of n (leb→le 1 n h.le) f.sfits in (r.some, r.most)
room (negsuc n) h f = absurd h.le

-- the number moved up is from 2^30 up
pub nrm-low : (x : ℤ) → pos 1 ≤ℤ x → SFits w32 x → pos 1073741824 ≤ℤ nrm x
unfolding nrm headrm shl32
nrm-low (pos n) h f =
    let r = room_of n (leb→le 1 n h.le) f.sfits in
    let k = clz32 (abs32 (pos n)) - 1 in
    let e : k % 32 ≡ k = mod-eq_of_lt (omega arith) in
    rw e
    (subst⁻¹ (λ (z : ℤ). pos 1073741824 ≤ℤ z) (wrap32-id {z = pos (n * 2 ^ k)} (record { sfits = r.high }))
    (record { le = le→leb 1073741824 (n * 2 ^ k) r.low }))
nrm-low (negsuc n) h f = absurd h.le

-- its upper half is no zero divisor, and the first inverse fits
pub inv-fits : (n : ℤ) → pos 1073741824 ≤ℤ n → SFits w32 n → (0 < of_z w32 (shr n 16)) × SFits w32 (b32_inv n)
unfolding shr b32_inv
inv-fits (pos n) h f =
    let l = leb→le 1073741824 n h.le in
    (omega arith, record { sfits = lt_of_le_of_lt (div-le_self 536870911 (n / 2 ^ 16)) (lit< tt) })
inv-fits (negsuc n) h f = absurd h.le
