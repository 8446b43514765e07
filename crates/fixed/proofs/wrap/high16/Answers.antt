-- `fixed::wrap::high16` meets its contract. Assumes nothing.
use Rattle.fixed.specs.Shift.{shr}
use Rattle.fixed.proofs.Fit.{read, fit-high, fit16-32}
use Rattle.fixed.proofs.wrap.high16.Goals as goal

pub returns : goal.returns
unfolding shr
returns c = let h = fit-high _ c.ranges.x in rw (read c.ranges.x, read (fit16-32 h)) (read h)
