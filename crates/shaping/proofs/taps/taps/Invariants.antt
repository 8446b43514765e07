-- `shaping::taps::taps` meets its contract. Assumes nothing.
use Prim.Native.Nat.{◌≤◌}
use mathlib.Core.Path.{◌≡◌}
use Rattle.shaping.specs.Taps.{taps_from}
use Rattle.shaping.proofs.taps.taps.Given as goal

abbrev pub invariant-loop-k : goal.invariant-loop-k
invariant-loop-k l = (l.k ≤ l.count) × (l.sum ≡ taps_from l.row l.at l.coef l.from l.k l.start)
