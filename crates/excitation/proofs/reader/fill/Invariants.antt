-- `excitation::reader::fill` meets its contract. Assumes nothing.
use Prim.Native.Nat.{◌^◌}
use mathlib.Core.Path.{◌≡◌}
use lib.ListN.{length}
use Rattle.fixed.specs.Iter.{iter}
use Rattle.fixed.specs.Wrap.{mod_z}
use Rattle.rfc6716.specs.Excitation.{turn}
use Rattle.excitation.proofs.Rows.{so_far}
use Rattle.excitation.proofs.reader.fill.Given as goal

abbrev pub invariant-loop-i : goal.invariant-loop-i
invariant-loop-i l = (length l.row ≡ length l.pulses)
    × (so_far (mod_z l.seed (2 ^ 32)) l.i l.row ≡ iter (turn l.offset l.pulses) l.i (so_far (mod_z l.first (2 ^ 32)) 0 l.initial.row))
