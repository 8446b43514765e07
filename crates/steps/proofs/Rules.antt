-- What the two rules of replacement leave in each LPC word. Assumes nothing.
use Prim.Native.Nat.{ℕ, ◌<◌, ◌≤◌}
use native.Mathlib.Omega.{arith}
use mathlib.Core.Path.{◌≡◌, refl}
use mathlib.Core.List.{List}
use lib.ListN.{length}
use lib.IntN.{ℤ, pos}
use Rattle.fixed.specs.Row.{word}
use Rattle.fixed.proofs.Fills.{fill-length, fill-apart, fill-at}
use Rattle.steps.specs.Among.{keeps_first, full_copy}

-- ---- the Rust's rule: the row is as long as the copied one, from word i on it has its words, and below its own
pub kept-length : (own by : List ℤ) (i : ℕ) → length (keeps_first own by i) ≡ length by
unfolding keeps_first
kept-length own by i = fill-length (λ j. j) (word own) i by

pub kept_from : (own by : List ℤ) (i j : ℕ) → i ≤ j → word (keeps_first own by i) j ≡ word by j
unfolding keeps_first
kept_from own by i j h = fill-apart (λ k. k) (word own) i by j (pos 0) (λ k q e. omega arith)

pub kept-below : (own by : List ℤ) (i j : ℕ) → i ≤ length by → j < i → word (keeps_first own by i) j ≡ word own j
unfolding keeps_first
kept-below own by i j n h = fill-at (λ k. k) (word own) i by (pos 0) (λ k l q e. omega arith) (λ k q. omega arith) j h

-- ---- the full copy: the copied row, at whatever place of the subframe
pub full-copy-is : (own by : List ℤ) (i : ℕ) → full_copy own by i ≡ by
unfolding full_copy
full-copy-is own by i = refl
