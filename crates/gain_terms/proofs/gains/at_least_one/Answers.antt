-- `gain_terms::gains::at_least_one` meets its contract. Assumes nothing.
use mathlib.Core.Path.{◌≡◌, refl, ◌∙◌}
use mathlib.Core.Bool.{Bool, true, false}
use native.Mathlib.Omega.{arith}
use lib.IntN.{ℤ, pos}
use lib.Signed.{lt_z}
use Rattle.std.specs.Int.{int_max}
use Rattle.std.proofs.lemmas.Int.{ints, clamps}
use Rattle.fixed.specs.Iter.{either}
use Rattle.fixed.proofs.Fit.{read, got32}
use Rattle.word_steps.specs.Gains.{at_least_one}
use Rattle.gain_terms.proofs.gains.at_least_one.Goals as goal

greater : (z : ℤ) → int_max z (pos 1) ≡ at_least_one z
unfolding at_least_one
greater z = go (lt_z (pos 1) z) refl
  where
    go : (b : Bool) → lt_z (pos 1) z ≡ b → int_max z (pos 1) ≡ either b z (pos 1)
    go true e = omega (arith, ints, clamps)
    go false e = omega (arith, ints, clamps)

pub returns : goal.returns
returns c =
    let t = got32 c.max.result c.max.type_inv in
    let v = (rw (read c.ranges.gain) at c.max.ensures.value) ∙ greater c.args.gain in
    rw t (v, c.max.ensures.other_bound)
