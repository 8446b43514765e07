-- `edges::ends::Fit::fitted` meets its contract. Assumes nothing.
use mathlib.Core.Path.{◌∙◌}
use mir.Syntax.{w16, w32}
use Rattle.fixed.proofs.Fit.{back, got32, read}
use Rattle.steps.specs.Flush.{fit_middle, fit_last}
use Rattle.edges.specs.Fits.{fit_by}
use Rattle.edges.proofs.ends.Fit.fitted.Goals as goal

pub returns-in-Middle : goal.returns-in-Middle
unfolding fit_by fit_middle fit_last
returns-in-Middle c =
    let i = c.in-Middle.is in
    let e = rw i at c.well_formed.0.1 in
    let gain = back w32 c.in-Middle.gain e.1.1.1.0.1 in
    rw i (back w16 c.xq_out.result c.xq_out.type_inv ∙ rw (read c.ranges.xq, gain) at c.xq_out.ensures)

pub returns-in-Last : goal.returns-in-Last
unfolding fit_by fit_middle fit_last
returns-in-Last c =
    let i = c.in-Last.is in
    let e = rw i at c.well_formed.0.1 in
    let gain = back w32 c.in-Last.gain e.1.1.1.0.1 in
    let o = c.xq_out-in-Last in
    let g = got32 c.shr32.result c.shr32.type_inv ∙ rw gain at c.shr32.ensures in
    rw i (back w16 o.result o.type_inv ∙ rw (read c.ranges.xq, g) at o.ensures)
