-- A word by its first byte. Assumes nothing.
use mathlib.Core.Path.{◌≡◌, refl, ap}
use mathlib.Core.Bool.{true, false}
use mathlib.Core.List.{List, [], ◌∷◌}
use Prim.Native.Nat.{ℕ, suc, ◌-◌}
use native.Mathlib.Omega.{arith}
use borrow.Author.Tests.{eq-eqb, ne_eqb}
use lib.ListN.{length, get_or, take, drop}
use lib.Seq.{take_all}
use Rattle.std.specs.Prelude.{None}
use Rattle.sheet_words.specs.Number.{magnitude, signed, number_of}

pub number-of-none : (w : List ℕ) → length w ≡ 0 → None ≡ number_of w
unfolding number_of
number-of-none [] h = refl
number-of-none (b ∷ w) h = absurd (omega arith)

pub number-of-minus : (w : List ℕ) → (length w ≡ 0 → ⊥) → get_or w 0 0 ≡ 45 → signed true (magnitude (take (length w - 1) (drop 1 w))) ≡ number_of w
unfolding number_of
number-of-minus [] h e = absurd (h refl)
number-of-minus (b ∷ w) h e = rw (eq-eqb b 45 e) (ap (λ (l : List ℕ). signed true (magnitude l)) (take_all (suc (length w) - 1) w (omega arith)))

pub number-of-plain : (w : List ℕ) → (length w ≡ 0 → ⊥) → (get_or w 0 0 ≡ 45 → ⊥) → signed false (magnitude w) ≡ number_of w
unfolding number_of
number-of-plain [] h e = absurd (h refl)
number-of-plain (b ∷ w) h e = rw (ne_eqb b 45 e)
