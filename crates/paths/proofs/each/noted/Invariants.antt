-- `paths::each::noted` meets its contract. Assumes nothing.
use mathlib.Core.Path.{◌≡◌}
use Prim.Native.Nat.{◌≤◌, ◌-◌}
use Rattle.fixed.specs.Iter.{iter}
use Rattle.noise.specs.Output.{pulse_of}
use Rattle.path.specs.Data.{ring_q, ring_at}
use Rattle.steps.specs.Carried.{note_turn}
use Rattle.paths.proofs.each.noted.Given as goal

abbrev pub invariant-loop-k : goal.invariant-loop-k
invariant-loop-k l = (l.k ≤ l.n) × (l.chosen ≡ iter (note_turn l.g (λ j. pulse_of (ring_at l.rings j ring_q l.r))) l.k l.initial.chosen)

abbrev pub decreases-loop-k : goal.decreases-loop-k
decreases-loop-k l = l.n - l.k
