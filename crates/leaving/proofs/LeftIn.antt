-- Places that follow from the facts of a subframe.
use mathlib.Core.Path.{◌≡◌, refl}
use mathlib.Core.Bool.{Bool, true, false}
use Prim.Native.Nat.{ℕ, ◌+◌, ◌≤◌}
use native.Mathlib.Omega.{arith}
use borrow.Author.Tests.{leb-true}
use lib.Dec.{leb}
use Rattle.fixed.specs.Iter.{either}
use Rattle.path.specs.declared.structs.Fix.{Fix}
use Rattle.steps.specs.Leaving.{leaves}
use Rattle.places.specs.Places.{Fits}

-- where a sample leaves, its place is not before the frame's start
pub left_in : (f : Fix) (i : ℕ) → Fits f → leaves f i ≡ true → f.«decisionDelay» ≤ f.base + i
unfolding leaves
left_in f i h e = go f.first h.held e
  where
    go : (b : Bool) → (b ≡ false → f.«decisionDelay» ≤ f.base) → either b (leb f.«decisionDelay» i) true ≡ true → f.«decisionDelay» ≤ f.base + i
    go true k e = omega (arith, leb-true f.«decisionDelay» i e)
    go false k e = let q = k refl in omega arith
