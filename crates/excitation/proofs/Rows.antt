-- A row of values in work, as the code has it: the first i words of the lent row, and the generator's word. Assumes nothing.
use Prim.Native.Nat.{ℕ, ◌+◌, ◌<◌}
use native.Mathlib.Numerals.{add-one}
use mathlib.Core.Path.{◌≡◌}
use mathlib.Core.List.{List}
use lib.ListN.{length, take, set}
use lib.Seq.{take-suc-set}
use lib.IntN.{ℤ}
use Rattle.rfc6716.specs.Excitation.{Row, pulse, value, next_seed, signed, seed_after}

-- the values in the first i words, and the seed after them
abbrev pub so_far : ℕ → ℕ → List ℤ → Row
so_far seed i row = record { seed = seed; e_Q23 = take i row }

-- one pulse more: its value written to word i
pub one_more : (offset x e : ℤ) (s t i : ℕ) (row : List ℤ) → i < length row → e ≡ signed (next_seed s) (value offset x) → t ≡ seed_after (next_seed s) x
    → so_far t (i + 1) (set row i e) ≡ pulse offset x (so_far s i row)
unfolding pulse
one_more offset x e s t i row h p q = rw (add-one, take-suc-set row i e h, p, q)
