-- `seeds::generator::low_half` meets its contract. Assumes nothing.
use mathlib.Core.Path.{◌∙◌}
use Rattle.seeds.specs.Halves.{low_half}
use Rattle.seeds.proofs.Halves.{masked, half-bits}
use Rattle.seeds.proofs.generator.low_half.Goals as goal

pub returns : goal.returns
unfolding low_half
returns c = masked _ ∙ half-bits c.ranges.seed
