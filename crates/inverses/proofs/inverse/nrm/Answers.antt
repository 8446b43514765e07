-- `inverses::inverse::nrm` meets its contract. Assumes nothing.
use mathlib.Core.Path.{◌≡◌, ◌∙◌}
use mir.Syntax.{w32}
use mir.Val.{to_z, of_z}
use Rattle.word_steps.specs.Inlines.{nrm}
use Rattle.fixed.proofs.Fit.{read, got32}
use Rattle.inverses.proofs.Head.{nrm-low}
use Rattle.inverses.proofs.inverse.nrm.Goals as goal

same : (c : goal.After-shl32) → to_z w32 (of_z w32 c.shl32.result) ≡ nrm c.args.x
unfolding nrm
same c =
    let f = c.ranges.x in
    let h = rw (read f) at c.headrm.ensures.0 in
    got32 c.shl32.result c.shl32.type_inv ∙ rw (read f, h) at c.shl32.ensures

pub returns : goal.returns
returns c = (same c, rw (same c) (nrm-low c.args.x c.requires c.ranges.x))
