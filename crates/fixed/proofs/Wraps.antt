-- The laws of wrapping, over the half range h: `wrap_to h z` is the one number from -h to h - 1 that differs from z by a multiple of 2 * h.
-- Each law is proved once, for every h; wrap32, wrap16 and wrap8 are its instances.
use mathlib.Core.Path.{◌≡◌, refl, sym, ap, ◌∙◌}
use Prim.Native.Nat.{ℕ, suc, ◌+◌, ◌-◌, ◌*◌, ◌/◌, ◌%◌, ◌^◌, ◌≤◌, ◌<◌}
use native.Mathlib.Omega.{arith}
use native.Mathlib.Nat.{mod-eq_of_lt, add-mul-mod_self_left, mod-lt, div-add-mod', mul-lt-mul_of_pos_right, mul-le-mul_right, mul-pos, eq_of_mul-eq-mul_left}
use lib.IntN.{ℤ, pos, negsuc, neg_ℤ, ◌+ℤ◌, ◌-ℤ◌, ◌*ℤ◌, +ℤ_comm}
use lib.Dec.{lit<, ltb, ltb→lt, nltb→le}
use lib.Signed.{shr_z}
use mir.Syntax.{Width, w8, w16, w32, w64}
use mir.Val.{SFits, to_z, of_z, bits, hbits}
use mir.Facts.{to_z-of_z, sfits_widen}
use Rattle.fixed.specs.Wrap.{mod_z, wrap_to, wrap32, wrap16, wrap8}
use Rattle.fixed.proofs.Lin.{P, N, by-sel, eq_of, add-lin, sub-lin-Z, neg-lin, sfits-lin, sfits-of-lin, shr-lin, mod-lin}

-- two remainders that differ by a multiple are equal
pub near : (m r s i j : ℕ) → r < m → s < m → r + m * i ≡ s + m * j → r ≡ s
near m r s i j h k e =
    sym (mod-eq_of_lt h) ∙ sym (add-mul-mod_self_left r m i) ∙ ap (λ (x : ℕ). x % m) e ∙ add-mul-mod_self_left s m j ∙ mod-eq_of_lt k

-- how often 2 * h is taken away
pub turns : ℕ → ℤ → ℤ
turns h z = shr_z (z +ℤ pos h) (2 * h)

-- what wrap_to gives: z less `turns` times 2 * h, from -h to h - 1
pub wrap-lin : (h : ℕ) (z : ℤ) → 0 < h
    → (P (wrap_to h z) + (N z + 2 * h * P (turns h z)) ≡ N (wrap_to h z) + (P z + 2 * h * N (turns h z))) × (P (wrap_to h z) < h + N (wrap_to h z)) × (N (wrap_to h z) ≤ h + P (wrap_to h z))
unfolding wrap_to turns
wrap-lin h z p =
    let q : 0 < 2 * h = omega arith in
    omega (arith, add-lin z (pos h), shr-lin (z +ℤ pos h) (2 * h) q, mod-lin (z +ℤ pos h) (2 * h) q, sub-lin-Z (pos (mod_z (z +ℤ pos h) (2 * h))) (pos h))

-- the number in range that differs from z by a multiple of 2 * h is wrap_to h z
pub wrap-is : (h i j : ℕ) (y z : ℤ) → 0 < h → P y < h + N y → N y ≤ h + P y → P y + (N z + 2 * h * i) ≡ N y + (P z + 2 * h * j) → y ≡ wrap_to h z
wrap-is h i j y z p hi lo e =
    let l = wrap-lin h z p in
    let w = wrap_to h z in
    let r = near (2 * h) (h + P y - N y) (h + P w - N w) (i + N (turns h z)) (j + P (turns h z)) (omega arith) (omega arith) (omega arith) in
    eq_of y w (omega arith)

pub wrap-fits : (w : Width) (z : ℤ) → 0 < 2 ^ hbits w → SFits w (wrap_to (2 ^ hbits w) z)
wrap-fits w z p = let l = wrap-lin (2 ^ hbits w) z p in sfits-of-lin w (wrap_to (2 ^ hbits w) z) l.1 l.2

-- a number in range is itself
pub wrap-id : (h : ℕ) (z : ℤ) → 0 < h → P z < h + N z → N z ≤ h + P z → wrap_to h z ≡ z
wrap-id h z p hi lo = sym (wrap-is h 0 0 z z p hi lo (omega arith))

-- numbers that differ by a multiple of 2 * h wrap to one
pub wrap-cong : (h i j : ℕ) (y z : ℤ) → 0 < h → P y + (N z + 2 * h * i) ≡ N y + (P z + 2 * h * j) → wrap_to h y ≡ wrap_to h z
wrap-cong h i j y z p e =
    let l = wrap-lin h y p in
    wrap-is h (i + P (turns h y)) (j + N (turns h y)) (wrap_to h y) z p l.1 l.2 (omega arith)

-- an inner wrap is lost in an outer one
pub wrap-add-l : (h : ℕ) (a b : ℤ) → 0 < h → wrap_to h (wrap_to h a +ℤ b) ≡ wrap_to h (a +ℤ b)
wrap-add-l h a b p =
    wrap-cong h (P (turns h a)) (N (turns h a)) (wrap_to h a +ℤ b) (a +ℤ b) p (omega (arith, wrap-lin h a p, add-lin (wrap_to h a) b, add-lin a b))

pub wrap-sub-r : (h : ℕ) (a b : ℤ) → 0 < h → wrap_to h (a -ℤ wrap_to h b) ≡ wrap_to h (a -ℤ b)
wrap-sub-r h a b p =
    wrap-cong h (N (turns h b)) (P (turns h b)) (a -ℤ wrap_to h b) (a -ℤ b) p (omega (arith, wrap-lin h b p, sub-lin-Z a (wrap_to h b), sub-lin-Z a b))

-- ---- the machine's words: the bits u, below 2^bits, stand for the number that they wrap to
pub to_z-wraps : (w : Width) (h u : ℕ) → 2 ^ hbits w ≡ h → 2 ^ bits w ≡ 2 * h → 0 < h → u < 2 * h → to_z w u ≡ wrap_to h (pos u)
to_z-wraps w h u e f p k =
    by-sel (ltb u (2 ^ hbits w)) (pos u) (negsuc (2 ^ bits w - suc u)) (λ y. y ≡ wrap_to h (pos u))
    (λ t. let l = ltb→lt u (2 ^ hbits w) t in wrap-is h 0 0 (pos u) (pos u) p (omega arith) (omega arith) (omega arith))
    (λ t. let l = nltb→le u (2 ^ hbits w) t in wrap-is h 1 0 (negsuc (2 ^ bits w - suc u)) (pos u) p (omega arith) (omega arith) (omega arith))

-- the bits u, of which the low ones are read, where u differs from z by a multiple
pub low_bits : (w : Width) (h i j u : ℕ) (z : ℤ) → 2 ^ hbits w ≡ h → 2 ^ bits w ≡ 2 * h → 0 < h → u + (N z + 2 * h * i) ≡ P z + 2 * h * j → to_z w (u % 2 ^ bits w) ≡ wrap_to h z
low_bits w h i j u z e f p q =
    ap (λ (m : ℕ). to_z w (u % m)) f
    ∙ to_z-wraps w h (u % (2 * h)) e f p (mod-lt u (omega arith))
    ∙ wrap-cong h (u / (2 * h) + i) j (pos (u % (2 * h))) z p (omega (arith, div-add-mod' u (2 * h)))

-- the number that `x << s` has, at m = 2^s
pub shl-wraps : (w : Width) (h m : ℕ) (x : ℤ) → 2 ^ hbits w ≡ h → 2 ^ bits w ≡ 2 * h → 0 < h → SFits w x → to_z w ((of_z w x * m) % 2 ^ bits w) ≡ wrap_to h (x *ℤ pos m)
shl-wraps w h m (pos n) e f p g = low_bits w h 0 0 (n * m) (pos (n * m)) e f p (omega arith)
shl-wraps w h m (negsuc n) e f p g =
    let s = sfits-lin g in
    let k : (2 ^ bits w - suc n) + suc n ≡ 2 * h = omega arith in
    low_bits w h 0 m ((2 ^ bits w - suc n) * m) (neg_ℤ (pos (suc n * m))) e f p (omega (arith, neg-lin (pos (suc n * m)), ap (λ (j : ℕ). j * m) k))

-- ---- up by k and down again
pub scale-lin : (k : ℕ) (y : ℤ) → (P (y *ℤ pos k) ≡ P y * k) × (N (y *ℤ pos k) ≡ N y * k)
scale-lin k (pos n) = omega arith
scale-lin k (negsuc n) = omega (arith, neg-lin (pos (suc n * k)))

shr-mul : (k : ℕ) (y : ℤ) → 0 < k → shr_z (y *ℤ pos k) k ≡ y
shr-mul k y p =
    let q = scale-lin k y in
    let s = shr-lin (y *ℤ pos k) k p in
    let r = near k (mod_z (y *ℤ pos k) k) 0 (P (shr_z (y *ℤ pos k) k) + N y) (P y + N (shr_z (y *ℤ pos k) k)) (mod-lin (y *ℤ pos k) k p) p (omega arith) in
    eq_of (shr_z (y *ℤ pos k) k) y (eq_of_mul-eq-mul_left k p _ _ (omega arith))

-- k times too high a word, wrapped at k times the range, and taken down again: its low bits with their sign
pub up-down : (k h : ℕ) (x : ℤ) → 0 < k → 0 < h → shr_z (wrap_to (k * h) (x *ℤ pos k)) k ≡ wrap_to h x
up-down k h x p q =
    let y = wrap_to h x in
    let l = wrap-lin h x q in
    let e = scale-lin k y in
    let f = scale-lin k x in
    let m = ap (λ (n : ℕ). n * k) l.0 in
    let hi = mul-lt-mul_of_pos_right l.1 p in
    let lo = mul-le-mul_right k l.2 in
    ap (λ (z : ℤ). shr_z z k) (sym (wrap-is (k * h) (P (turns h x)) (N (turns h x)) (y *ℤ pos k) (x *ℤ pos k) (mul-pos p q) (omega arith) (omega arith) (omega arith)))
    ∙ shr-mul k y p

-- the number that `(x << s) >> s` has, at k = 2^s
pub low-word : (w : Width) (k h : ℕ) {x : ℤ} → 2 ^ hbits w ≡ k * h → 2 ^ bits w ≡ 2 * (k * h) → 0 < k → 0 < h → SFits w (wrap_to h x) → SFits w x
    → to_z w (of_z w (shr_z (to_z w ((of_z w x * k) % 2 ^ bits w)) k)) ≡ wrap_to h x
low-word w k h {x} e f p q g d =
    ap (λ (z : ℤ). to_z w (of_z w (shr_z z k))) (shl-wraps w (k * h) k x e f (mul-pos p q) d) ∙ ap (λ (z : ℤ). to_z w (of_z w z)) (up-down k h x p q) ∙ to_z-of_z g

-- ════ the instances at 32, 16 and 8 bits
pub wrap32-fits : (z : ℤ) → SFits w32 (wrap32 z)
unfolding wrap32
wrap32-fits z = wrap-fits w32 z (lit< tt)

pub wrap16-fits : (z : ℤ) → SFits w16 (wrap16 z)
unfolding wrap16
wrap16-fits z = wrap-fits w16 z (lit< tt)

pub wrap8-fits : (z : ℤ) → SFits w8 (wrap8 z)
unfolding wrap8
wrap8-fits z = wrap-fits w8 z (lit< tt)

-- what fits is itself
pub wrap32-id : {z : ℤ} → SFits w32 z → wrap32 z ≡ z
unfolding wrap32
wrap32-id {z} f = let l = sfits-lin f in wrap-id (2 ^ 31) z (lit< tt) (omega arith) (omega arith)

pub wrap16-id : {z : ℤ} → SFits w16 z → wrap16 z ≡ z
unfolding wrap16
wrap16-id {z} f = let l = sfits-lin f in wrap-id (2 ^ 15) z (lit< tt) (omega arith) (omega arith)

pub wrap8-id : {z : ℤ} → SFits w8 z → wrap8 z ≡ z
unfolding wrap8
wrap8-id {z} f = let l = sfits-lin f in wrap-id (2 ^ 7) z (lit< tt) (omega arith) (omega arith)

-- what fits, and differs from z by a multiple of 2^32, is wrap32 z
pub wrap32-is : (i j : ℕ) (y z : ℤ) → SFits w32 y → P y + (N z + 2 ^ 32 * i) ≡ N y + (P z + 2 ^ 32 * j) → y ≡ wrap32 z
unfolding wrap32
wrap32-is i j y z f e = let l = sfits-lin f in wrap-is (2 ^ 31) i j y z (lit< tt) (omega arith) (omega arith) e

-- a multiple of 2^32 more or less is the same
pub wrap32-cong : (i j : ℕ) (y z : ℤ) → P y + (N z + 2 ^ 32 * i) ≡ N y + (P z + 2 ^ 32 * j) → wrap32 y ≡ wrap32 z
unfolding wrap32
wrap32-cong i j y z e = wrap-cong (2 ^ 31) i j y z (lit< tt) e

pub wrap32-more : (k : ℕ) (z : ℤ) → wrap32 (z +ℤ pos (k * 2 ^ 32)) ≡ wrap32 z
wrap32-more k z = wrap32-cong 0 k (z +ℤ pos (k * 2 ^ 32)) z (omega (arith, add-lin z (pos (k * 2 ^ 32))))

pub wrap32-less : (k : ℕ) (z : ℤ) → wrap32 (z -ℤ pos (k * 2 ^ 32)) ≡ wrap32 z
wrap32-less k z = wrap32-cong k 0 (z -ℤ pos (k * 2 ^ 32)) z (omega (arith, sub-lin-Z z (pos (k * 2 ^ 32))))

-- an inner wrap is lost in an outer one
pub wrap32-add-l : (a b : ℤ) → wrap32 (wrap32 a +ℤ b) ≡ wrap32 (a +ℤ b)
unfolding wrap32
wrap32-add-l a b = wrap-add-l (2 ^ 31) a b (lit< tt)

pub wrap32-add-r : (a b : ℤ) → wrap32 (a +ℤ wrap32 b) ≡ wrap32 (a +ℤ b)
wrap32-add-r a b = ap wrap32 (+ℤ_comm a (wrap32 b)) ∙ wrap32-add-l b a ∙ ap wrap32 (+ℤ_comm b a)

pub wrap32-sub-l : (a b : ℤ) → wrap32 (wrap32 a -ℤ b) ≡ wrap32 (a -ℤ b)
wrap32-sub-l a b = wrap32-add-l a (neg_ℤ b)

pub wrap32-sub-r : (a b : ℤ) → wrap32 (a -ℤ wrap32 b) ≡ wrap32 (a -ℤ b)
unfolding wrap32
wrap32-sub-r a b = wrap-sub-r (2 ^ 31) a b (lit< tt)

-- the numbers that the bodies of low32, low16, low8 and shl32 have
pub low32 : {x : ℤ} → SFits w64 x → to_z w64 (of_z w64 (shr_z (to_z w64 ((of_z w64 x * 2 ^ 32) % 2 ^ 64)) (2 ^ 32))) ≡ wrap32 x
unfolding wrap32
low32 {x} f = low-word w64 (2 ^ 32) (2 ^ 31) refl refl (lit< tt) (lit< tt) (sfits_widen tt (wrap-fits w32 x (lit< tt))) f

pub low16 : {x : ℤ} → SFits w32 x → to_z w32 (of_z w32 (shr_z (to_z w32 ((of_z w32 x * 2 ^ 16) % 2 ^ 32)) (2 ^ 16))) ≡ wrap16 x
unfolding wrap16
low16 {x} f = low-word w32 (2 ^ 16) (2 ^ 15) refl refl (lit< tt) (lit< tt) (sfits_widen tt (wrap-fits w16 x (lit< tt))) f

pub low8 : {x : ℤ} → SFits w32 x → to_z w32 (of_z w32 (shr_z (to_z w32 ((of_z w32 x * 2 ^ 24) % 2 ^ 32)) (2 ^ 24))) ≡ wrap8 x
unfolding wrap8
low8 {x} f = low-word w32 (2 ^ 24) (2 ^ 7) refl refl (lit< tt) (lit< tt) (sfits_widen tt (wrap-fits w8 x (lit< tt))) f

pub shl32 : (m : ℕ) {x : ℤ} → SFits w32 x → to_z w32 ((of_z w32 x * m) % 2 ^ 32) ≡ wrap32 (x *ℤ pos m)
unfolding wrap32
shl32 m {x} f = shl-wraps w32 (2 ^ 31) m x refl refl (lit< tt) f
