-- `paths::sample::sample` meets its contract. Assumes nothing.
use mathlib.Core.Path.{ap, ◌∙◌}
use Rattle.path.specs.declared.structs.Moves.{Moves}
use Rattle.path.specs.Data.{paths}
use Rattle.steps.specs.Each.{pairs}
use mathlib.Core.List.{List}
use lib.IntN.{ℤ}
use Rattle.steps.specs.Among.{full_copy}
use Rattle.steps.specs.Carried.{swap_from, copied_row}
use Rattle.steps.specs.Settled.{settled, Settled}
use Rattle.steps.specs.Sample.{sample, tried}
use Rattle.paths.proofs.sample.sample.Goals as goal

pub returns : goal.returns
unfolding sample tried
returns c =
    let a = c.args in
    let n = a.f.«nStates» in
    let l = a.ps.now.lpcs in
    let g = a.ps.now.rings in
    let from : Moves → Settled = λ m. settled full_copy (pairs a.f a.v.a.now a.s a.i a.r0 m l g) n a.i a.r a.last (paths m.owns l g) in
    let copied : Moves → List (List ℤ) = λ m. copied_row (swap_from (pairs a.f a.v.a.now a.s a.i a.r0 m l g) g n a.last) a.chosen.now in
    record { words = c.settled.ensures.words ∙ rw c.pairs-c.ensures (ap from c.moves-m.ensures); chosen = c.settled.ensures.chosen ∙ rw c.pairs-c.ensures (ap copied c.moves-m.ensures) }
