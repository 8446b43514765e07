-- `choice::candidate::ordered` meets its contract. Assumes nothing.
use Rattle.fixed.proofs.Fit.{read, test32}
use Rattle.choice.specs.RustChoice.{ordered}
use Rattle.choice.proofs.candidate.ordered.Goals as goal

pub returns-then-rd1-rd2 : goal.returns-then-rd1-rd2
unfolding ordered
returns-then-rd1-rd2 c = let f = c.ranges in rw (test32 f.rd1 f.rd2 c.if-rd1-rd2.true, read f.q1, read f.rd1, read f.q2, read f.rd2)

pub returns : goal.returns
unfolding ordered
returns c = let f = c.ranges in rw (test32 f.rd1 f.rd2 c.if-rd1-rd2.false, read f.q1, read f.rd1, read f.q2, read f.rd2)
