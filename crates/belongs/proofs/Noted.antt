-- The rows that the paths carry: after a sample each row is that of the path that it comes from, with one word more. Assumes nothing.
use Prim.Native.Nat.{ℕ, ◌<◌, ◌≤◌}
use native.Mathlib.Omega.{arith}
use mathlib.Core.Path.{◌≡◌, ap, ◌∙◌}
use mathlib.Core.List.{List, []}
use lib.ListN.{get_or, set, length, length-set}
use lib.Seq.{get_or-set_same, get_or-set_other}
use lib.IntN.{ℤ, pos}
use Rattle.fixed.specs.Row.{word}
use Rattle.fixed.proofs.Each.{each_long, each_in}
use Rattle.path.specs.declared.structs.Swap.{Swap}
use Rattle.steps.specs.Carried.{copied_row, noted}
use Rattle.belongs.specs.Used.{source_of}
use Rattle.belongs.proofs.Took.{copied_at, copied-long}

-- four rows, with room for 320 words each
pub record Room (n : ℕ) (rows : List (List ℤ)) : Type 0 where
  pub four : length rows ≡ 4
  pub long : (k : ℕ) → k < n → length (get_or rows k []) ≡ 320

module _ {n : ℕ} (g : ℕ) (s : Swap) (value : ℕ → ℤ) {rows : List (List ℤ)} (r : Room n rows) (n4 : n ≤ 4) (to_in : s.to < n)
    (source_in : (k : ℕ) → k < n → source_of s k < n) where
  copied-4 : length (copied_row s rows) ≡ 4
  unfolding copied_row
  copied-4 = copied-long [] rows s ∙ r.four

  row-noted : (k : ℕ) → k < n → get_or (noted n g value (copied_row s rows)) k [] ≡ set (get_or rows (source_of s k) []) g (value k)
  unfolding noted copied_row
  row-noted k h =
      each_in [] (λ j row. set row g (value j)) n (copied_row s rows) k h (omega (arith, copied-4))
      ∙ ap (λ (z : List ℤ). set z g (value k)) (copied_at [] rows s k (omega (arith, r.four)))

  pub noted-room : Room n (noted n g value (copied_row s rows))
  unfolding noted
  noted-room =
      record {
        four = each_long [] (λ j row. set row g (value j)) n (copied_row s rows) ∙ copied-4;
        long = λ k h.
            ap (λ (z : List ℤ). length z) (row-noted k h)
            ∙ length-set (get_or rows (source_of s k) []) g (value k)
            ∙ r.long (source_of s k) (source_in k h);
      }

  -- the words that it had, and the new one
  pub noted-old : (k : ℕ) → k < n → (h : ℕ) → h < g → word (get_or (noted n g value (copied_row s rows)) k []) h ≡ word (get_or rows (source_of s k) []) h
  noted-old k h y q =
      ap (λ (z : List ℤ). word z y) (row-noted k h) ∙ get_or-set_other (get_or rows (source_of s k) []) g y (value k) (pos 0) (λ z. omega arith)

  pub noted-new : g < 320 → (k : ℕ) → k < n → word (get_or (noted n g value (copied_row s rows)) k []) g ≡ value k
  noted-new g320 k h =
      ap (λ (z : List ℤ). word z g) (row-noted k h)
      ∙ get_or-set_same (get_or rows (source_of s k) []) g (value k) (pos 0) (omega (arith, r.long (source_of s k) (source_in k h)))
