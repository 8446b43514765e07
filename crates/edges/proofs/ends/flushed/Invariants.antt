-- `edges::ends::flushed` meets its contract. Assumes nothing.
use mathlib.Core.Path.{◌≡◌}
use Prim.Native.Nat.{◌≤◌, ◌-◌}
use lib.ListN.{length}
use Rattle.fixed.specs.Iter.{iter}
use Rattle.steps.specs.Flush.{flush_turn, outs}
use Rattle.edges.specs.Fits.{fit_by}
use Rattle.edges.proofs.ends.flushed.Given as goal

abbrev pub invariant-loop-i : goal.invariant-loop-i
invariant-loop-i l = ((l.i ≤ l.d) × (length l.pulses ≡ length l.initial.pulses))
    × (outs l.xq l.shp l.pulses ≡ iter (flush_turn l.h l.ring (fit_by l.fit) l.d l.g l.r) l.i (outs l.initial.xq l.initial.shp l.initial.pulses))

abbrev pub decreases-loop-i : goal.decreases-loop-i
decreases-loop-i l = l.d - l.i
