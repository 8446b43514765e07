-- `leaving::emission::leaves` meets its contract. Assumes nothing.
use mathlib.Core.Bool.{Bool, true, false, not}
use mathlib.Core.Path.{◌≡◌, refl}
use Rattle.fixed.specs.Iter.{either}
use Rattle.steps.specs.Leaving.{leaves}
use Rattle.leaving.proofs.emission.leaves.Goals as goal

-- a later subframe, and the first
later : (first late : Bool) → not first ≡ true → not first ≡ either first late true
later true late e = absurd (cc)
later false late e = refl

firsts : (first late : Bool) → not first ≡ false → late ≡ either first late true
firsts true late e = refl
firsts false late e = absurd (cc)

pub returns-then-not-f : goal.returns-then-not-f
unfolding leaves
returns-then-not-f c = later c.args.f.first _ c.if-not-f.true

pub returns-else-not-f : goal.returns-else-not-f
unfolding leaves
returns-else-not-f c = firsts c.args.f.first _ c.if-not-f.false
