-- `noise::output::pulse_of` meets its contract. Assumes nothing.
use mathlib.Core.Path.{◌∙◌}
use mir.Syntax.{w8}
use Rattle.fixed.proofs.Fit.{read, got32, back}
use Rattle.noise.specs.Output.{pulse_of}
use Rattle.noise.proofs.output.pulse_of.Goals as goal

pub returns : goal.returns
unfolding pulse_of
returns c =
    let pulse = rw (read c.ranges.q_q10) at c.pulse_of.ensures in
    back w8 c.low8.result c.low8.type_inv ∙ rw (got32 c.pulse_of.result c.pulse_of.type_inv, pulse) at c.low8.ensures
