-- Runs of bytes: how far one goes from a place of a text. Assumes nothing.
use mathlib.Core.Path.{◌≡◌}
use mathlib.Core.Bool.{Bool, true, false}
use mathlib.Core.List.{List, [], ◌∷◌}
use Prim.Native.Nat.{ℕ, suc, ◌+◌, ◌≤◌, ◌<◌}
use native.Mathlib.Omega.{arith}
use native.Mathlib.Numerals.{add-one}
use lib.ListN.{length, drop, get_or, drop_of_length-le}
use lib.Seq.{drop-cons}
use Rattle.fixed.specs.Iter.{either}
use Rattle.sheet_words.specs.Number.{run}

-- no byte is left
pub run_end : (test : ℕ → Bool) (s : List ℕ) (i : ℕ) → length s ≤ i → run test (drop i s) ≡ 0
unfolding run
run_end test s i h = rw (drop_of_length-le s {i = i} h)

-- the byte at i is not of the run
pub run-stop : (test : ℕ → Bool) (s : List ℕ) (i : ℕ) → i < length s → test (get_or s i 0) ≡ false → run test (drop i s) ≡ 0
unfolding run
run-stop test s i h e = rw (drop-cons s i 0 h, e)

-- the byte at i is of the run
pub run_more : (test : ℕ → Bool) (s : List ℕ) (i : ℕ) → i < length s → test (get_or s i 0) ≡ true → run test (drop i s) ≡ suc (run test (drop (i + 1) s))
unfolding run
run_more test s i h e = rw (drop-cons s i 0 h, e, add-one)

one_less : (b : Bool) (n m : ℕ) → n ≤ m → either b (suc n) 0 ≤ suc m
one_less true n m h = omega arith
one_less false n m h = omega arith

-- a run is no longer than the text
pub run-le : (test : ℕ → Bool) (s : List ℕ) → run test s ≤ length s
unfolding run
run-le test [] = omega arith
run-le test (b ∷ s) = one_less (test b) (run test s) (length s) (run-le test s)
