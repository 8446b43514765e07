-- A row filled from its start on. Assumes nothing.
use Prim.Native.Nat.{ℕ, zero, suc, ◌+◌, ◌*◌, ◌≤◌, ◌<◌}
use native.Mathlib.Omega.{arith}
use native.Mathlib.Numerals.{add-one}
use mathlib.Core.Path.{◌≡◌, refl, sym, ◌∙◌}
use mathlib.Core.List.{List, [], ◌∷◌, ◌++◌, append_assoc, append-nil}
use lib.ListN.{length, get_or, drop, set, length-append, length-drop, drop_of_length-le}
use lib.Seq.{drop-cons, set_at}
use lib.IntN.{ℤ, pos}
use borrow.Author.Tests.{eq-eqb, ne_eqb}
use Rattle.wav_file.specs.Fill.{sample_of, samples_of, filled, filling, not_twice}

pub length-samples : (b : List ℕ) (n : ℕ) → length (samples_of b n) ≡ n
length-samples b zero = refl
length-samples b (suc n) = length-append (samples_of b n) (sample_of b n ∷ []) ∙ omega (arith, length-samples b n)

-- the first i samples, and then the row as it was
abbrev pub row_at : List ℕ → List ℤ → ℕ → List ℤ
row_at b row i = samples_of b i ++ drop i row

pub row-length : (b : List ℕ) (row : List ℤ) (i : ℕ) → i ≤ length row → length (row_at b row i) ≡ length row
row-length b row i h = length-append (samples_of b i) (drop i row) ∙ omega (arith, length-samples b i, length-drop i row)

-- one more
pub row_more : (b : List ℕ) (row : List ℤ) (i : ℕ) → i < length row → set (row_at b row i) i (sample_of b i) ≡ row_at b row (i + 1)
row_more b row i h =
    rw (add-one i, drop-cons row i (pos 0) h)
    (set_at (samples_of b i) (get_or row i (pos 0)) (drop (suc i) row) (sample_of b i) i (length-samples b i)
    ∙ sym (append_assoc (samples_of b i) (sample_of b i ∷ []) (drop (suc i) row)))

-- all of them
pub row-all : (b : List ℕ) (row : List ℤ) → row_at b row (length row) ≡ samples_of b (length row)
row-all b row = rw (drop_of_length-le row {i = length row} (omega arith)) (append-nil (samples_of b (length row)))

-- ---- what is left, by whether the part is twice as long as the row
module _ (b : List ℕ) (row : List ℤ) where
  pub unlike : (length b ≡ 2 * length row → ⊥) → filled 8 row ≡ filling b row
  unfolding filling not_twice
  unlike h = rw (ne_eqb (length b) (2 * length row) h)

  pub alike : length b ≡ 2 * length row → filled 0 (samples_of b (length row)) ≡ filling b row
  unfolding filling not_twice
  alike h = rw (eq-eqb (length b) (2 * length row) h)
