-- What the choice and the generator have to do with RFC 6716, section 4.2.7.8.6. A seed of the RFC is the number from 0 to 2^32 - 1
-- that the i32 seed differs from by a multiple of 2^32.
-- Assumes nothing.
use Prim.Native.Nat.{ℕ, zero, suc, ◌+◌, ◌-◌, ◌*◌, ◌/◌, ◌%◌, ◌^◌, ◌≤◌, ◌<◌}
use native.Mathlib.Omega.{arith}
use native.Mathlib.Nat.{mod-lt, mod-eq_of_lt, add-mul-mod_self_left, div-add-mod'}
use mathlib.Core.Path.{◌≡◌, refl, sym, ap, ◌∙◌}
use lib.IntN.{ℤ, pos, negsuc, neg_ℤ, ◌+ℤ◌, ◌-ℤ◌, ◌*ℤ◌}
use lib.Dec.{lit<}
use lib.Signed.{lt_z, shr_z, ◌≤ℤ◌}
use borrow.Author.Tests.{eq-eqb, ne_eqb, le-ltb}
use mir.Syntax.{w32}
use mir.Val.{SFits}
use Rattle.fixed.specs.Wrap.{mod_z, wrap32}
use Rattle.fixed.specs.Shift.{shr, shl32, rround}
use Rattle.seeds.specs.Generator.{rand}
use Rattle.fixed.proofs.Lin.{P, N, eq_of, add-lin, sub-lin-Z, neg-lin, shr-lin, mod-lin, le-lin, le-of-lin, sfits-of-lin}
use Rattle.fixed.proofs.Wraps.{turns, wrap-lin, wrap32-id, wrap32-fits}
use Rattle.rfc6716.specs.Excitation.{offset_Q23, sign, value, next_seed, negates, signed, seed_after, Row, pulse}
use Rattle.residuals.specs.Offset.{offset_of}
use Rattle.residuals.specs.Residual.{turned, signed_excitation, pulse_of, seed_with}
use Rattle.choice.specs.RuleChoice.{lean, level_of}
use Rattle.choice.proofs.Near.{times-lin, level-lin}

-- ---- remainders
-- the number below m that differs from z by a multiple of m is mod_z z m
mod-is : (m r i j : ℕ) (z : ℤ) → r < m → r + (N z + m * i) ≡ P z + m * j → r ≡ mod_z z m
mod-is m r i j z h e =
    let p : 0 < m = omega arith in
    let s = shr_z z m in
    let l = shr-lin z m p in
    let k : r + m * (i + N s) ≡ mod_z z m + m * (j + P s) = omega arith in
    sym (mod-eq_of_lt h)
    ∙ sym (add-mul-mod_self_left r m (i + N s))
    ∙ ap (λ (x : ℕ). x % m) k
    ∙ add-mul-mod_self_left (mod_z z m) m (j + P s)
    ∙ mod-eq_of_lt (mod-lin z m p)

-- ---- offsets and levels
-- the table's offset is 4 times the RFC's
pub offset-is-rfc : (signalType offset_type : ℕ) → signalType ≤ 2 → offset_type ≤ 1 → offset_of signalType offset_type ≡ offset_Q23 signalType offset_type *ℤ pos 4
unfolding offset_of offset_Q23
offset-is-rfc zero zero h k = refl
offset-is-rfc zero (suc zero) h k = refl
offset-is-rfc zero (suc (suc n)) h k = absurd (omega arith)
offset-is-rfc (suc zero) zero h k = refl
offset-is-rfc (suc zero) (suc zero) h k = refl
offset-is-rfc (suc zero) (suc (suc n)) h k = absurd (omega arith)
offset-is-rfc (suc (suc zero)) zero h k = refl
offset-is-rfc (suc (suc zero)) (suc zero) h k = refl
offset-is-rfc (suc (suc zero)) (suc (suc n)) h k = absurd (omega arith)
offset-is-rfc (suc (suc (suc n))) zero h k = absurd (omega arith)
offset-is-rfc (suc (suc (suc n))) (suc m) h k = absurd (omega arith)

-- the RFC's value by its parts
pub value-lin : (o p : ℤ) → P (value o p) + (256 * N p + N o + 20 * P (sign p)) ≡ N (value o p) + (256 * P p + P o + 20 * N (sign p))
unfolding value
value-lin o p =
    omega (arith, times-lin 256 p, times-lin 20 (sign p), sub-lin-Z (p *ℤ pos 256) (sign p *ℤ pos 20), add-lin (p *ℤ pos 256 -ℤ sign p *ℤ pos 20) o)

-- a sign is -1, 0 or 1
pub sign-size : (p : ℤ) → (P (sign p) ≤ 1) × (N (sign p) ≤ 1)
sign-size (pos zero) = omega arith
sign-size (pos (suc n)) = omega arith
sign-size (negsuc n) = omega arith

lean-sign : (p : ℤ) → (P (lean p) ≡ 80 * P (sign p)) × (N (lean p) ≡ 80 * N (sign p))
lean-sign (pos zero) = omega arith
lean-sign (pos (suc n)) = omega arith
lean-sign (negsuc n) = omega arith

-- the level of pulse p is 4 times the RFC's value before its sign step: for every pulse, -32 to 31 among them, and every offset
pub level-is-rfc : (o p : ℤ) → level_of (o *ℤ pos 4) p ≡ value o p *ℤ pos 4
level-is-rfc o p =
    let l = level-lin (o *ℤ pos 4) p in
    let v = value-lin o p in
    let s = lean-sign p in
    eq_of (level_of (o *ℤ pos 4) p) (value o p *ℤ pos 4) (omega (arith, times-lin 4 o, times-lin 4 (value o p)))

-- rounding a level gives its pulse back, for every pulse
pub pulse-of-level : (o p : ℤ) → pos 32 ≤ℤ o → o ≤ℤ pos 240 → pulse_of (level_of o p) ≡ p
unfolding pulse_of rround shr
pulse-of-level o p h k =
    let v = level_of o p in
    let a = le-lin h in
    let b = le-lin k in
    let l = level-lin o p in
    let n = lean-size p in
    let s = shr-lin v 512 (lit< tt) in
    let m = mod-lin v 512 (lit< tt) in
    let c = add-lin (shr_z v 512) (pos 1) in
    let t = shr-lin (shr_z v 512 +ℤ pos 1) 2 (lit< tt) in
    let w = mod-lin (shr_z v 512 +ℤ pos 1) 2 (lit< tt) in
    eq_of (shr_z (shr_z v 512 +ℤ pos 1) 2) p (omega arith)
  where
    lean-size : (p : ℤ) → (P (lean p) ≤ 80) × (N (lean p) ≤ 80)
    lean-size (pos zero) = omega arith
    lean-size (pos (suc n)) = omega arith
    lean-size (negsuc n) = omega arith

-- ---- the generator, its sign and the seed after a pulse
-- the wrapped word has the remainder of the number
word_mod : (r i j : ℕ) (z : ℤ) → r < 2 ^ 32 → r + (N z + 2 ^ 32 * i) ≡ P z + 2 ^ 32 * j → r ≡ mod_z (wrap32 z) (2 ^ 32)
unfolding wrap32
word_mod r i j z h e =
    let l = wrap-lin (2 ^ 31) z (lit< tt) in
    let t = turns (2 ^ 31) z in
    mod-is (2 ^ 32) r (i + N t) (j + P t) (wrap32 z) h (omega arith)

-- one step of the generator, for every seed
pub generator-is-rfc : (seed : ℤ) → mod_z (rand seed) (2 ^ 32) ≡ next_seed (mod_z seed (2 ^ 32))
unfolding rand next_seed
generator-is-rfc seed =
    let u = mod_z seed (2 ^ 32) in
    let k = shr_z seed (2 ^ 32) in
    let l = shr-lin seed (2 ^ 32) (lit< tt) in
    let m = times-lin 196314165 seed in
    let a = add-lin (seed *ℤ pos 196314165) (pos 907633515) in
    let n = 196314165 * u + 907633515 in
    let d = div-add-mod' n (2 ^ 32) in
    sym (word_mod (n % 2 ^ 32) (n / 2 ^ 32 + 196314165 * P k) (196314165 * N k) (seed *ℤ pos 196314165 +ℤ pos 907633515) (mod-lt n (lit< tt)) (omega arith))

-- a negative seed is one whose bit 31 is set, for every i32
pub sign-is-rfc : (seed : ℤ) → SFits w32 seed → lt_z seed (pos 0) ≡ negates (mod_z seed (2 ^ 32))
unfolding negates
sign-is-rfc (pos n) f = let h : n < 2 ^ 31 = f.sfits in le-ltb n 0 (omega arith) ∙ sym (ne_eqb (n % 2 ^ 32 / 2 ^ 31 % 2) 1 (λ e. omega arith))
sign-is-rfc (negsuc n) f = let h : n < 2 ^ 31 = f.sfits in sym (eq-eqb ((2 ^ 32 - suc (n % 2 ^ 32)) / 2 ^ 31 % 2) 1 (omega arith))

-- the sign step
pub turned-is-rfc : (seed z : ℤ) → SFits w32 seed → SFits w32 (neg_ℤ z) → turned seed z ≡ signed (mod_z seed (2 ^ 32)) z
unfolding turned signed
turned-is-rfc seed z f g = rw (sign-is-rfc seed f, wrap32-id g)

-- a pulse added to the generator's word, for every word and every whole number
pub added-is-rfc : (seed x : ℤ) → mod_z (wrap32 (seed +ℤ x)) (2 ^ 32) ≡ seed_after (mod_z seed (2 ^ 32)) x
unfolding seed_after
added-is-rfc seed x =
    let u = mod_z seed (2 ^ 32) in
    let k = shr_z seed (2 ^ 32) in
    let l = shr-lin seed (2 ^ 32) (lit< tt) in
    let a = add-lin seed x in
    let b = add-lin (pos u) x in
    let s = shr_z (pos u +ℤ x) (2 ^ 32) in
    let t = shr-lin (pos u +ℤ x) (2 ^ 32) (lit< tt) in
    sym (word_mod (mod_z (pos u +ℤ x) (2 ^ 32)) (P k + P s) (N k + N s) (seed +ℤ x) (mod-lin (pos u +ℤ x) (2 ^ 32) (lit< tt)) (omega arith))

-- the seed after the pulse of a level, for every seed and level
pub seed-is-rfc : (seed level : ℤ) → mod_z (seed_with seed level) (2 ^ 32) ≡ seed_after (mod_z seed (2 ^ 32)) (pulse_of level)
unfolding seed_with
seed-is-rfc seed level = added-is-rfc seed (pulse_of level)

-- the excitation of a pulse from -32 to 31 is 64 times the RFC's value, after the same sign step
pub excitation-is-rfc : (seed o p : ℤ) → SFits w32 seed → pos 8 ≤ℤ o → o ≤ℤ pos 60 → negsuc 31 ≤ℤ p → p ≤ℤ pos 31
    → signed_excitation seed (level_of (o *ℤ pos 4) p) ≡ signed (mod_z seed (2 ^ 32)) (value o p *ℤ pos 64)
unfolding signed_excitation shl32
excitation-is-rfc seed o p f a b c d =
    let v = value o p in
    let al = le-lin a in
    let bl = le-lin b in
    let cl = le-lin c in
    let dl = le-lin d in
    let vl = value-lin o p in
    let s = sign-size p in
    let x = times-lin 64 v in
    let y = neg-lin (v *ℤ pos 64) in
    let e : level_of (o *ℤ pos 4) p *ℤ pos 16 ≡ v *ℤ pos 64 =
    ap (λ (z : ℤ). z *ℤ pos 16) (level-is-rfc o p) ∙ eq_of (v *ℤ pos 4 *ℤ pos 16) (v *ℤ pos 64) (omega (arith, times-lin 4 v, times-lin 16 (v *ℤ pos 4))) in
    ap (turned seed) (ap wrap32 e ∙ wrap32-id (sfits-of-lin w32 (v *ℤ pos 64) (omega arith) (omega arith)))
    ∙ turned-is-rfc seed (v *ℤ pos 64) f (sfits-of-lin w32 (neg_ℤ (v *ℤ pos 64)) (omega arith) (omega arith))

-- the generator gives i32 words
pub rand-fits : (seed : ℤ) → SFits w32 (rand seed)
unfolding rand
rand-fits seed = wrap32-fits (seed *ℤ pos 196314165 +ℤ pos 907633515)

-- one sample, whole: from the same seed, pulse p leaves both with the same seed, and the excitation of its level is 64 times the
-- value that the RFC signs with that step's seed
pub sample-is-rfc : (seed o p : ℤ) (t : Row) → t.seed ≡ mod_z seed (2 ^ 32) → pos 8 ≤ℤ o → o ≤ℤ pos 60 → negsuc 31 ≤ℤ p → p ≤ℤ pos 31
    → (mod_z (seed_with (rand seed) (level_of (o *ℤ pos 4) p)) (2 ^ 32) ≡ (pulse o p t).seed)
    × (signed_excitation (rand seed) (level_of (o *ℤ pos 4) p) ≡ signed (next_seed t.seed) (value o p *ℤ pos 64))
unfolding pulse
sample-is-rfc seed o p t e a b c d =
    let al = le-lin a in
    let bl = le-lin b in
    let m = times-lin 4 o in
    let g : mod_z (rand seed) (2 ^ 32) ≡ next_seed t.seed = generator-is-rfc seed ∙ ap next_seed (sym e) in
    let q = pulse-of-level (o *ℤ pos 4) p (le-of-lin (pos 32) (o *ℤ pos 4) (omega arith)) (le-of-lin (o *ℤ pos 4) (pos 240) (omega arith)) in
    (seed-is-rfc (rand seed) (level_of (o *ℤ pos 4) p) ∙ rw (g, q), excitation-is-rfc (rand seed) o p (rand-fits seed) a b c d ∙ rw g)
