-- `inverses::inverse::headrm` meets its contract. Assumes nothing.
use mathlib.Core.Path.{◌≡◌, ◌∙◌, refl}
use native.Mathlib.Omega.{arith}
use Rattle.fixed.specs.Range.{abs32}
use Rattle.fixed.specs.Shift.{clz32}
use Rattle.word_steps.specs.Inlines.{headrm}
use Rattle.fixed.proofs.Fit.{read, got32}
use Rattle.inverses.proofs.Head.{room}
use Rattle.inverses.proofs.inverse.headrm.Goals as goal

-- what the count gives
zeros : (c : goal.After-clz32) → c.clz32.result ≡ clz32 (abs32 c.args.x)
zeros c =
    let m = c.abs32 in
    let e = got32 m.result m.type_inv ∙ rw (read c.ranges.x) at m.ensures in
    rw e at c.clz32.ensures

pub overflow_sub-result : goal.overflow_sub-result
overflow_sub-result c = let e = zeros c in omega (arith, room _ c.requires c.ranges.x)

pub returns : goal.returns
unfolding headrm
returns c = let e = zeros c in rw e (refl, omega (arith, room _ c.requires c.ranges.x))
