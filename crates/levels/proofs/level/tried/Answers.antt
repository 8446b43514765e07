-- `levels::level::tried` meets its contract. Assumes nothing.
use mathlib.Core.Path.{◌≡◌, refl, sym, ap, ◌∙◌}
use mathlib.Core.Bool.{true, false}
use lib.IntN.{ℤ, pos, negsuc}
use Prim.Native.Nat.{zero, suc}
use native.Mathlib.Omega.{arith}
use lib.Signed.{lt_z}
use mir.Syntax.{w32}
use mir.Val.{to_z, of_z}
use Rattle.fixed.proofs.Fit.{read, test32, lit32}
use Rattle.fixed.proofs.Lin.{lt-true, lt-false}
use Rattle.levels.specs.Levels.{above, below, tried}
use Rattle.levels.proofs.level.tried.Goals as goal

tried-above : (p o l : ℤ) → lt_z (pos 0) p ≡ true → tried p o l ≡ above p o l
unfolding tried
tried-above (pos zero) o l e = let z = lt-true (pos 0) (pos 0) e in absurd (omega arith)
tried-above (pos (suc n)) o l e = refl
tried-above (negsuc n) o l e = let z = lt-true (pos 0) (negsuc n) e in absurd (omega arith)

tried-below : (p o l : ℤ) → lt_z (pos 0) p ≡ false → (p ≡ pos 0 → ⊥) → (p ≡ negsuc 0 → ⊥) → tried p o l ≡ below p o l
unfolding tried
tried-below (pos zero) o l e h k = absurd (h refl)
tried-below (pos (suc n)) o l e h k = let z = lt-false (pos 0) (pos (suc n)) e in absurd (omega arith)
tried-below (negsuc zero) o l e h k = absurd (k refl)
tried-below (negsuc (suc n)) o l e h k = refl

pub returns-then-p-gt0 : goal.returns-then-p-gt0
returns-then-p-gt0 c =
    let f = c.ranges in
    rw (read f.p, read f.offset, read f.lambda) at c.above.ensures
    ∙ sym (tried-above _ _ _ (test32 (lit32 (pos 0) tt) f.p c.if-p-gt0.true))

pub returns-then-p-eq0 : goal.returns-then-p-eq0
unfolding tried
returns-then-p-eq0 c =
    let f = c.ranges in
    let e : c.args.p ≡ pos 0 = sym (read f.p) ∙ ap (to_z w32) c.if-p-eq0.true in
    rw (read f.offset, read f.lambda) at c.at_zero.ensures ∙ sym (ap (λ (p : ℤ). tried p c.args.offset c.args.lambda) e)

pub returns-then-p-eqminus1 : goal.returns-then-p-eqminus1
unfolding tried
returns-then-p-eqminus1 c =
    let f = c.ranges in
    let e : c.args.p ≡ negsuc 0 = sym (read f.p) ∙ ap (to_z w32) c.if-p-eqminus1.true in
    rw (read f.offset, read f.lambda) at c.at_minus_one.ensures ∙ sym (ap (λ (p : ℤ). tried p c.args.offset c.args.lambda) e)

pub returns : goal.returns
returns c =
    let f = c.ranges in
    rw (read f.p, read f.offset, read f.lambda) at c.below.ensures
    ∙ sym (tried-below _ _ _ (test32 (lit32 (pos 0) tt) f.p c.if-p-gt0.false) (λ e. c.if-p-eq0.false (ap (of_z w32) e)) (λ e. c.if-p-eqminus1.false (ap (of_z w32) e)))
