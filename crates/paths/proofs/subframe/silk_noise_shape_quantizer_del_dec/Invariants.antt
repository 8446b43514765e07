-- `paths::subframe::silk_noise_shape_quantizer_del_dec` meets its contract. Assumes nothing.
use mathlib.Core.Path.{◌≡◌}
use Prim.Native.Nat.{◌≤◌, ◌<◌, ◌-◌}
use lib.ListN.{length}
use Rattle.fixed.specs.Iter.{iter}
use Rattle.path.specs.Data.{running, rows_of_coefs}
use Rattle.steps.specs.Among.{full_copy}
use Rattle.steps.specs.Carried.{chosen, carry_at}
use Rattle.steps.specs.Turn.{turn}
use Rattle.paths.proofs.subframe.silk_noise_shape_quantizer_del_dec.Given as goal

abbrev pub invariant-loop-i : goal.invariant-loop-i
invariant-loop-i l = (((l.i ≤ l.i-end) × (l.i-end ≡ l.f.subfr_length)) × ((length l.pulses ≡ length l.initial.pulses) × (l.w.smpl_buf_idx < 40)))
    × ((running l.w l.pulses ≡ iter (turn full_copy l.f (rows_of_coefs l.v) l.x) l.i (running l.initial.w l.initial.pulses))
    × (l.w.chosen ≡ iter (carry_at chosen full_copy l.f (rows_of_coefs l.v) l.x (running l.initial.w l.initial.pulses)) l.i l.initial.w.chosen))

abbrev pub decreases-loop-i : goal.decreases-loop-i
decreases-loop-i l = l.i-end - l.i
