-- `subframes::scalars::halves_of` meets its contract. Assumes nothing.
use mathlib.Core.Path.{◌∙◌}
use lib.ListN.{get_or}
use lib.IntN.{pos}
use mir.Syntax.{w32}
use Rattle.fixed.proofs.Fit.{back, got32}
use Rattle.steps.proofs.Told.{given}
use Rattle.steps.specs.Call.{halves_by}
use Rattle.subframes.proofs.scalars.halves_of.Goals as goal

pub returns : goal.returns
unfolding halves_by
returns c =
    let a = c.args in
    let v = got32 c.harm_shape_packed.result c.harm_shape_packed.type_inv ∙ rw (back w32 (get_or a.harm.now a.k (pos 0)) c.h-1.given) at c.harm_shape_packed.ensures in
    simp (v, back w32 (get_or a.tilt.now a.k (pos 0)) c.t-1.given, (given a.g c.struct_told-1.given).warping)
