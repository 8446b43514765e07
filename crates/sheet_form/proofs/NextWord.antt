-- The next word of a text, by the places where it starts and ends. Assumes nothing.
use mathlib.Core.Path.{◌≡◌, ◌∙◌}
use mathlib.Core.List.{List, []}
use Prim.Native.Nat.{ℕ, ◌+◌, ◌-◌, ◌≤◌}
use native.Mathlib.Omega.{arith}
use lib.ListN.{length, take, drop, drop_of_length-le}
use lib.Seq.{drop-drop, take-nil}
use Rattle.sheet_words.specs.Number.{Range, bad, run, separator, in_word, skip, word, after_word, number_of, in_range, and_rest, number}

module _ (text : List ℕ) (at start : ℕ) (e : start ≡ at + run separator (drop at text)) where
  pub skip_at : skip (drop at text) ≡ drop start text
  unfolding skip
  skip_at = drop-drop (run separator (drop at text)) at text ∙ rw e

  -- the word that starts there and ends at `end`
  pub number-at : (r : Range) (end : ℕ) → end ≡ start + run in_word (drop start text)
      → number r (drop at text) ≡ and_rest (in_range r (number_of (take (end - start) (drop start text)))) (drop end text)
  unfolding number word after_word
  number-at r end f =
      let n : end - start ≡ run in_word (drop start text) = omega arith in
      rw (skip_at, n, f, drop-drop (run in_word (drop start text)) start text)

  -- no word is left
  pub number-none : (r : Range) → length text ≤ start → number r (drop at text) ≡ bad
  unfolding number word after_word number_of in_range and_rest
  number-none r h = rw (skip_at, drop_of_length-le text {i = start} h, take-nil {A = ℕ} (run in_word []))
