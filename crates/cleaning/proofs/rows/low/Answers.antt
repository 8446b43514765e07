-- `cleaning::rows::low` meets its contract. Assumes nothing.
use Rattle.fixed.proofs.Wraps.{low16}
use Rattle.cleaning.proofs.rows.low.Goals as goal

pub returns : goal.returns
returns c = low16 c.ranges.w
