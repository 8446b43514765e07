-- One sample of all paths: first every path tries its two candidates (only this part reads the call's rows), then the choice among the paths.
-- silk_noise_shape_quantizer_del_dec of NSQ_del_dec.rs, the body of its loop over the samples between the predictions and the output.
-- Assumes nothing.
use Rattle.std.specs.Prelude.{ℕ, List, ℤ}
use Rattle.path.specs.declared.structs.Fix.{Fix}
use Rattle.path.specs.declared.structs.Halves.{Halves}
use Rattle.path.specs.declared.structs.Common.{Common}
use Rattle.path.specs.declared.structs.Moves.{Moves}
use Rattle.path.specs.Data.{Paths, paths}
use Rattle.steps.specs.Each.{moves, pairs}
use Rattle.steps.specs.Among.{Rule}
use Rattle.steps.specs.Settled.{Settled, settled}

-- from the paths that have moved on, m
unfoldable pub tried : Rule → Fix → List ℤ → Common → ℕ → ℕ → ℕ → ℕ → Moves → Paths → Settled
tried rule f a s i r0 r last m p =
    settled rule (pairs f a s i r0 m p.lpcs p.rings) f.«nStates» i r last (paths m.owns p.lpcs p.rings)

-- r0 the ring's place before this sample, r its place now, last the place of the sample that leaves
unfoldable pub sample : Rule → Fix → Halves → List ℤ → List ℤ → Common → ℕ → ℕ → ℕ → ℕ → Paths → Settled
sample rule f h a ar s i r0 r last p = tried rule f a s i r0 r last (moves f h ar p.owns) p
