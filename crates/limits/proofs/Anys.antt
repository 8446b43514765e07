-- A test that holds of some word of a row: by place, as the definitions have it, and by word, as the library's `any` has it. Assumes nothing.
use mathlib.Core.Path.{◌≡◌, refl, ap, ◌∙◌}
use mathlib.Core.Bool.{Bool, true, false, ◌||◌}
use mathlib.Core.List.{List, [], ◌∷◌}
use Prim.Native.Nat.{ℕ, zero, suc}
use lib.ListN.{length, get_or}
use lib.IntN.{ℤ, pos}
use Rattle.std.specs.List.{list_any}
use Rattle.limits.specs.Tests.{some}

or-none : (a : Bool) → a ≡ (a || false)
or-none true = refl
or-none false = refl

or-assoc : (a b c : Bool) → ((a || b) || c) ≡ (a || (b || c))
or-assoc true b c = refl
or-assoc false b c = refl

-- the first place apart
some-shift : (p : ℕ → Bool) (m : ℕ) → some p (suc m) ≡ (p 0 || some (λ k. p (suc k)) m)
some-shift p zero = or-none (p 0)
some-shift p (suc m) = ap (λ (t : Bool). t || p (suc m)) (some-shift p m) ∙ or-assoc (p 0) (some (λ k. p (suc k)) m) (p (suc m))

pub some-any : (p : ℤ → Bool) (l : List ℤ) → some (λ k. p (get_or l k (pos 0))) (length l) ≡ list_any p l
some-any p [] = refl
some-any p (x ∷ l) = some-shift (λ k. p (get_or (x ∷ l) k (pos 0))) (length l) ∙ ap (λ (t : Bool). p x || t) (some-any p l)
