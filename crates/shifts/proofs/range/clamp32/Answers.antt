-- `shifts::range::clamp32` meets its contract. Assumes nothing.
use Rattle.fixed.specs.Range.{clamp}
use Rattle.fixed.proofs.Fit.{read, test32}
use Rattle.shifts.proofs.range.clamp32.Goals as goal

pub returns-then-v-hi : goal.returns-then-v-hi
unfolding clamp
returns-then-v-hi c = let f = c.ranges in rw (test32 f.hi f.v c.if-v-hi.true) (read f.hi)

pub returns-then-v-lo : goal.returns-then-v-lo
unfolding clamp
returns-then-v-lo c =
    let f = c.ranges in
    rw (test32 f.hi f.v c.if-v-hi.false, test32 f.v f.lo c.if-v-lo.true) (read f.lo)

pub returns-else-v-lo : goal.returns-else-v-lo
unfolding clamp
returns-else-v-lo c =
    let f = c.ranges in
    rw (test32 f.hi f.v c.if-v-hi.false, test32 f.v f.lo c.if-v-lo.false) (read f.v)
