-- `fixed::wrap::low16` meets its contract. Assumes nothing.
use mathlib.Core.Path.{◌∙◌, subst⁻¹}
use mir.Facts.{to_z-of_z}
use mir.Syntax.{w16}
use mir.Val.{SFits}
use Rattle.fixed.proofs.Wraps as W
use Rattle.fixed.proofs.wrap.low16.Goals as goal

pub overflow_cast-result : goal.overflow_cast-result
overflow_cast-result c = subst⁻¹ (SFits w16) (W.low16 c.ranges.x) (W.wrap16-fits c.args.x)

pub returns : goal.returns
returns c = to_z-of_z (overflow_cast-result c) ∙ W.low16 c.ranges.x
