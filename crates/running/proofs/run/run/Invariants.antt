-- `running::run::run` meets its contract. Assumes nothing.
use mathlib.Core.Path.{◌≡◌}
use Prim.Native.Nat.{◌≤◌, ◌<◌, ◌-◌}
use lib.IntN.{pos}
use lib.ListN.{length}
use lib.Signed.{◌≤ℤ◌}
use Rattle.fixed.specs.Iter.{iter}
use Rattle.steps.specs.Among.{full_copy}
use Rattle.steps.specs.Carried.{chosen, carry_from}
use Rattle.steps.specs.Lent.{framed_at, run_in}
use Rattle.running.proofs.run.run.Given as goal

abbrev pub invariant-loop-k : goal.invariant-loop-k
invariant-loop-k l = (((l.k ≤ l.k-end) × (l.k-end ≡ l.g.nb_subfr)) × ((length l.pulses ≡ length l.initial.pulses) × ((pos 1 ≤ℤ l.t.prev) × (l.t.work.smpl_buf_idx < 40))))
    × ((framed_at l.t l.pulses ≡ run_in full_copy l.g l.r l.k (framed_at l.initial.t l.initial.pulses))
    × (l.t.work.chosen
    ≡ iter (carry_from chosen full_copy l.g l.r.x.now l.r.pred.now l.r.long.now l.r.ar.now l.r.tilt.now l.r.harm.now l.r.lf.now l.r.gains.now l.r.lags.now (framed_at l.initial.t l.initial.pulses)) l.k l.initial.t.work.chosen))

abbrev pub decreases-loop-k : goal.decreases-loop-k
decreases-loop-k l = l.k-end - l.k
