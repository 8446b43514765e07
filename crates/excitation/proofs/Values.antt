-- What a pulse stands for: the RFC's value by the sign of its pulse, and that it fits a word. Assumes nothing.
use Prim.Native.Nat.{zero, suc}
use native.Mathlib.Omega.{arith}
use mathlib.Core.Path.{◌≡◌, refl, sym, ap, ◌∙◌}
use mathlib.Core.Bool.{true, false}
use lib.IntN.{ℤ, pos, negsuc, neg_ℤ, ◌+ℤ◌, ◌-ℤ◌, ◌*ℤ◌}
use lib.Signed.{lt_z, ◌≤ℤ◌}
use mir.Syntax.{w8, w32}
use mir.Val.{SFits}
use Rattle.fixed.specs.Wrap.{wrap32}
use Rattle.fixed.proofs.Lin.{eq_of, sub-lin-Z, neg-lin, le-lin, lt-true, lt-false, sfits-lin, sfits-of-lin}
use Rattle.fixed.proofs.Wraps.{wrap32-add-l, wrap32-sub-l}
use Rattle.choice.proofs.Rfc.{value-lin, sign-size}
use Rattle.rfc6716.specs.Excitation.{sign, value}

-- ---- the sign of a pulse
sign_above : (x : ℤ) → lt_z (pos 0) x ≡ true → sign x ≡ pos 1
sign_above (pos zero) e = absurd (let l = lt-true (pos 0) (pos 0) e in omega arith)
sign_above (pos (suc n)) e = refl
sign_above (negsuc n) e = absurd (let l = lt-true (pos 0) (negsuc n) e in omega arith)

sign_below : (x : ℤ) → lt_z x (pos 0) ≡ true → sign x ≡ negsuc 0
sign_below (pos n) e = absurd (let l = lt-true (pos n) (pos 0) e in omega arith)
sign_below (negsuc n) e = refl

sign_zero : (x : ℤ) → lt_z (pos 0) x ≡ false → lt_z x (pos 0) ≡ false → sign x ≡ pos 0
sign_zero (pos zero) e f = refl
sign_zero (pos (suc n)) e f = absurd (let l = lt-false (pos 0) (pos (suc n)) e in omega arith)
sign_zero (negsuc n) e f = absurd (let l = lt-false (negsuc n) (pos 0) f in omega arith)

-- ---- the three ways in which a value is worked out, with wrapping words; nothing is asked of the offset
pub value-above : (o x : ℤ) → lt_z (pos 0) x ≡ true → wrap32 (wrap32 (wrap32 (x *ℤ pos 256) -ℤ pos 20) +ℤ o) ≡ wrap32 (value o x)
unfolding value
value-above o x e =
    rw (sign_above x e)
    (ap (λ (z : ℤ). wrap32 (z +ℤ o)) (wrap32-sub-l (x *ℤ pos 256) (pos 20)) ∙ wrap32-add-l (x *ℤ pos 256 -ℤ pos 20) o)

pub value-below : (o x : ℤ) → lt_z x (pos 0) ≡ true → wrap32 (wrap32 (wrap32 (x *ℤ pos 256) +ℤ pos 20) +ℤ o) ≡ wrap32 (value o x)
unfolding value
value-below o x e =
    rw (sign_below x e)
    (ap (λ (z : ℤ). wrap32 (z +ℤ o)) (wrap32-add-l (x *ℤ pos 256) (pos 20)) ∙ wrap32-add-l (x *ℤ pos 256 +ℤ pos 20) o)

pub value-zero : (o x : ℤ) → lt_z (pos 0) x ≡ false → lt_z x (pos 0) ≡ false → wrap32 (wrap32 (x *ℤ pos 256) +ℤ o) ≡ wrap32 (value o x)
unfolding value
value-zero o x e f =
    rw (sign_zero x e f)
    (wrap32-add-l (x *ℤ pos 256) o ∙ ap (λ (z : ℤ). wrap32 (z +ℤ o)) (sym (less_none (x *ℤ pos 256))))
  where
    less_none : (z : ℤ) → z -ℤ pos 0 ≡ z
    less_none z = eq_of (z -ℤ pos 0) z (let l = sub-lin-Z z (pos 0) in omega arith)

-- ---- with an offset of the table the value, and its negation, fit a word: they are at most 32808 in size
pub value-fits : (o x : ℤ) → pos 0 ≤ℤ o → o ≤ℤ pos 60 → SFits w8 x → SFits w32 (value o x)
value-fits o x a b f =
    let al = le-lin a in
    let bl = le-lin b in
    let fl = sfits-lin f in
    let l = value-lin o x in
    let s = sign-size x in
    sfits-of-lin w32 (value o x) (omega arith) (omega arith)

pub negated_fits : (o x : ℤ) → pos 0 ≤ℤ o → o ≤ℤ pos 60 → SFits w8 x → SFits w32 (neg_ℤ (value o x))
negated_fits o x a b f =
    let al = le-lin a in
    let bl = le-lin b in
    let fl = sfits-lin f in
    let l = value-lin o x in
    let s = sign-size x in
    let n = neg-lin (value o x) in
    sfits-of-lin w32 (neg_ℤ (value o x)) (omega arith) (omega arith)
