-- The excitation that each path used, as a note beside the run (`steps`, specs/Carried.antt): what a path carries of its past, and what the final
-- winner carries in the end. Assumes nothing.
use Rattle.std.specs.Prelude.{ℕ, ◌&&◌, List, get_or, ℤ, eqb}
use Rattle.fixed.specs.Iter.{either}
use Rattle.seeds.specs.Generator.{rand}
use Rattle.residuals.specs.Residual.{signed_excitation}
use Rattle.path.specs.declared.structs.Swap.{Swap}
use Rattle.path.specs.Data.{no_path, Running}
use Rattle.steps.specs.Among.{Rule}
use Rattle.steps.specs.Call.{Call}
use Rattle.steps.specs.Carried.{Note, level_of}
use Rattle.steps.specs.Report.{winners_row}

-- whose words path k has after the replacement
abbrev pub source_of : Swap → ℕ → ℕ
source_of s k = either (s.yes && eqb k s.to) s.by k

-- Seed of path k
abbrev pub seed_of : Running → ℕ → ℤ
seed_of t k = (get_or t.core.ps.owns k no_path).«Seed»

-- exc_Q14 of path k at a sample: the level that it took, in Q14, with the sign of the generator's step from the seed that it had before
abbrev pub used : Note
used t s u k = signed_excitation (rand (seed_of t (source_of s k))) (level_of u k)

-- what the final winner used at each sample of the frame
abbrev pub winners_used : Rule → Call → List ℤ → List ℤ → List ℤ
winners_used rule c x out = winners_row used rule c x out
