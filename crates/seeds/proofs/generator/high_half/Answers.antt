-- `seeds::generator::high_half` meets its contract. Assumes nothing.
use mathlib.Core.Path.{◌∙◌}
use Prim.Native.Nat.{◌^◌}
use mir.Syntax.{w32}
use Rattle.fixed.specs.Shift.{shr}
use Rattle.fixed.proofs.Fit.{read, fit-shr}
use Rattle.seeds.specs.Halves.{high_half}
use Rattle.seeds.proofs.Halves.{masked, half-bits}
use Rattle.seeds.proofs.generator.high_half.Goals as goal

pub returns : goal.returns
unfolding high_half shr
returns c = rw (read c.ranges.seed) (masked _ ∙ half-bits (fit-shr w32 c.args.seed (2 ^ 16) c.ranges.seed))
