-- A part of a list, read from either end. Of any list. Assumes nothing.
use Prim.Native.Nat.{ℕ, zero, suc, ◌+◌}
use native.Mathlib.Nat.{zero-add, suc-add}
use mathlib.Core.Path.{◌≡◌, refl}
use mathlib.Core.List.{List, [], ◌∷◌}
use lib.ListN.{take, drop}

-- m places from place a on are what is behind the first a of the first a + m
pub drop-take : {A : Type 0} (a m : ℕ) (l : List A) → take m (drop a l) ≡ drop a (take (a + m) l)
drop-take zero m l = rw (zero-add m) refl
drop-take (suc a) zero [] = rw (suc-add a 0) refl
drop-take (suc a) (suc m) [] = rw (suc-add a (suc m)) refl
drop-take (suc a) m (x ∷ l) = rw (suc-add a m) (drop-take a m l)
