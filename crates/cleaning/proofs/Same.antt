-- A setting of 32 bits compared with a number, as the code does it and as the definitions say it. Assumes nothing.
use Prim.Native.Nat.{ℕ}
use mathlib.Core.Path.{◌≡◌, refl, sym, ap, ◌∙◌}
use mathlib.Core.Bool.{Bool, true, false}
use lib.IntN.{ℤ, pos}
use lib.Dec.{eqb, ltb}
use mir.Syntax.{w32}
use mir.Val.{to_z, of_z}
use borrow.Author.Tests.{eqb-true, eqb-false}
use Rattle.silk.proofs.Told.{Back}
use Rattle.limits.specs.Count.{nat_z, same_z}
use Rattle.limits.proofs.Laws.{same_true, same_refl}
use Rattle.cleaning.proofs.Keeps.{fails}

-- the code compares bits
pub same_back : (z : ℤ) (n : ℕ) → Back z → to_z w32 n ≡ pos n → eqb (of_z w32 z) n ≡ same_z z (pos n)
same_back z n b e = go (eqb (of_z w32 z) n) refl
  where
    go : (t : Bool) → eqb (of_z w32 z) n ≡ t → t ≡ same_z z (pos n)
    go true h = let q : z ≡ pos n = sym b ∙ ap (to_z w32) (eqb-true (of_z w32 z) n h) ∙ e in rw q (sym (same_refl (pos n)))
    go false h = sym (fails (same_z z (pos n)) (λ (q : same_z z (pos n) ≡ true). eqb-false (of_z w32 z) n h (ap (of_z w32) (same_true z (pos n) q))))

-- a place compared with the count of a setting that was read from its bits
pub below-back : {r : Bool} (i : ℕ) (z : ℤ) → Back z → r ≡ ltb i (nat_z (to_z w32 (of_z w32 z))) → r ≡ ltb i (nat_z z)
below-back i z b e = e ∙ ap (λ (y : ℤ). ltb i (nat_z y)) b
