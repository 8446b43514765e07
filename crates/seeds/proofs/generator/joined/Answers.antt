-- `seeds::generator::joined` meets its contract. Assumes nothing.
use Rattle.seeds.proofs.Halves.{put-together}
use Rattle.seeds.proofs.generator.joined.Goals as goal

pub returns : goal.returns
returns c = put-together _ _ c.requires.high_fits c.requires.low_fits
