-- `winner::search::first_best` meets its contract. Assumes nothing.
use mathlib.Core.Path.{◌≡◌}
use Prim.Native.Nat.{◌≤◌, ◌<◌}
use Rattle.winner.specs.Winner.{first_of}
use Rattle.winner.proofs.search.first_best.Given as goal

abbrev pub invariant-loop-k : goal.invariant-loop-k
invariant-loop-k g l = ((l.k ≤ l.n) × (l.w < l.n)) × (l.w ≡ first_of g.order l.k)
