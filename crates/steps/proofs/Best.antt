-- The search at a flush: it finds the first of the cheapest paths. Assumes nothing.
use Prim.Native.Nat.{ℕ, ◌<◌}
use mathlib.Core.List.{List}
use lib.ListN.{get_or}
use lib.IntN.{ℤ}
use lib.Signed.{lt_z}
use Rattle.fixed.proofs.Iters.{found-less}
use Rattle.fixed.proofs.Searches.{First, least-of}
use Rattle.path.specs.declared.structs.Path.{Path}
use Rattle.path.specs.Data.{no_path}
use Rattle.steps.specs.Flush.{best_of}

-- the running cost of path k
abbrev cost : List Path → ℕ → ℤ
cost o k = (get_or o k no_path).RD_Q10

-- no path is cheaper, and every lower one is dearer
pub best-first : (o : List Path) (n : ℕ) → First (λ k w. lt_z (cost o k) (cost o w)) n (best_of o n)
unfolding best_of
best-first o n = least-of (cost o) n

-- what it finds is one of the paths
pub best-in : (o : List Path) (n : ℕ) → 0 < n → best_of o n < n
unfolding best_of
best-in o n h = found-less (λ k w. lt_z (cost o k) (cost o w)) n h
