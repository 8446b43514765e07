-- `shifts::range::sat16` meets its contract. Assumes nothing.
use mathlib.Core.Path.{◌≡◌, refl, ◌∙◌}
use mathlib.Core.Bool.{Bool, true, false}
use native.Mathlib.Omega.{arith}
use lib.IntN.{ℤ, pos, negsuc}
use lib.Signed.{lt_z}
use mir.Syntax.{w16}
use mir.Val.{SFits}
use Rattle.std.specs.Int.{int_max, int_min}
use Rattle.std.proofs.lemmas.Int.{ints, clamps}
use Rattle.fixed.specs.Iter.{either}
use Rattle.fixed.specs.Range.{sat16, clamp}
use Rattle.fixed.proofs.Fit.{read, got32}
use Rattle.shifts.proofs.range.sat16.Goals as goal

between : (v : ℤ) → int_max (negsuc 32767) (int_min v (pos 32767)) ≡ sat16 v
unfolding sat16 clamp
between v = go (lt_z (pos 32767) v) (lt_z v (negsuc 32767)) refl refl
  where
    go : (b c : Bool) → lt_z (pos 32767) v ≡ b → lt_z v (negsuc 32767) ≡ c
        → int_max (negsuc 32767) (int_min v (pos 32767)) ≡ either b (pos 32767) (either c (negsuc 32767) v)
    go true c e f = omega (arith, ints, clamps)
    go false true e f = omega (arith, ints, clamps)
    go false false e f = omega (arith, ints, clamps)

pub returns : goal.returns
returns c =
    let r = c.clamp.result in
    let t = got32 r c.clamp.type_inv in
    let fits : SFits w16 r = let e = c.clamp.ensures.value in let l = c.clamp.ensures.lower_bound in let h = c.clamp.ensures.upper_bound in omega (arith, ints, clamps) in
    rw t (read fits ∙ (rw (read c.ranges.v) at c.clamp.ensures.value) ∙ between c.args.v)
