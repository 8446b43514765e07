-- `inverses::inverse::b32_inv` meets its contract. Assumes nothing.
use Prim.Native.Nat.{◌^◌}
use mir.Syntax.{w32}
use Rattle.fixed.specs.Shift.{shr}
use Rattle.word_steps.specs.Inlines.{b32_inv}
use Rattle.fixed.proofs.Fit.{read, fit-shr}
use Rattle.inverses.proofs.Head.{inv-fits}
use Rattle.inverses.proofs.inverse.b32_inv.Goals as goal

pub returns : goal.returns
unfolding shr b32_inv
returns c = let f = c.ranges.b32_nrm in rw (read f, read (fit-shr w32 c.args.b32_nrm (2 ^ 16) f)) (read (inv-fits c.args.b32_nrm c.requires f).1)
