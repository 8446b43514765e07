-- The path count that a sheet's number stands for. Assumes nothing.
use mathlib.Core.Path.{◌≡◌, sym, ap, ◌∙◌}
use Prim.Native.Nat.{ℕ}
use native.Mathlib.Omega.{arith}
use lib.IntN.{ℤ, pos, negsuc, nat_abs}
use borrow.Author.Tests.{ne_eqb}
use mir.Syntax.{w32}
use mir.Val.{to_z, of_z}
use Rattle.sheet_form.specs.Sheets.{default_paths, paths_of}

pub paths-zero : (z : ℤ) → to_z w32 (of_z w32 z) ≡ z → of_z w32 z ≡ 0 → paths_of z ≡ pos 2
unfolding paths_of default_paths
paths-zero z back e =
    let f : z ≡ pos 0 = sym back ∙ ap (to_z w32) e in
    rw f

none : (z : ℤ) → (of_z w32 z ≡ 0 → ⊥) → nat_abs z ≡ 0 → ⊥
none (pos n) h e = h (ap (λ (m : ℕ). of_z w32 (pos m)) e)
none (negsuc n) h e = omega arith

pub paths-other : (z : ℤ) → (of_z w32 z ≡ 0 → ⊥) → paths_of z ≡ z
unfolding paths_of
paths-other z h = rw (ne_eqb (nat_abs z) 0 (none z h))
