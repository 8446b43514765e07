-- What every path does at a sample: it moves on, tries its two candidates, and in the end takes its first. The loops over the paths in
-- silk_noise_shape_quantizer_del_dec of NSQ_del_dec.rs. Assumes nothing.
use Rattle.std.specs.Prelude.{ℕ, List, [], get_or, set, replicate, ℤ, pos}
use Rattle.fixed.specs.Iter.{iter}
use Rattle.path.specs.declared.structs.Path.{Path}
use Rattle.path.specs.declared.structs.Candidate.{Candidate}
use Rattle.path.specs.declared.structs.Fix.{Fix}
use Rattle.path.specs.declared.structs.Halves.{Halves}
use Rattle.path.specs.declared.structs.Common.{Common}
use Rattle.path.specs.declared.structs.Moves.{Moves}
use Rattle.fixed.specs.Row.{word}
use Rattle.path.specs.Data.{no_path, no_candidate, Paths, candidate_at}
use Rattle.path.specs.Path.{moved, pair}
use Rattle.path.specs.Taken.{taken, path_at, path_set}

-- ---- the generator and the warped filter move on
-- path k of all
abbrev pub move_turn : Fix → Halves → List ℤ → ℕ → Moves → Moves
move_turn f h ar k m =
    record {
      owns = set m.owns k (moved f h ar (get_or m.owns k no_path)).own;
      n_AR_Q14 = set m.n_AR_Q14 k (moved f h ar (get_or m.owns k no_path)).n_AR_Q14;
    }

-- the paths before any has moved, with room for their n_AR_Q14
abbrev pub unmoved : List Path → Moves
unmoved ps = record { owns = ps; n_AR_Q14 = replicate 4 (pos 0) }

-- all of them
unfoldable pub moves : Fix → Halves → List ℤ → List Path → Moves
moves f h ar ps = iter (move_turn f h ar) f.«nStates» (unmoved ps)

-- ---- the two candidates of a path that has moved on
-- path k of all
abbrev pub pair_turn : Fix → List ℤ → Common → ℕ → ℕ → Moves → List (List ℤ) → List (List (List ℤ)) → ℕ → List (List Candidate) → List (List Candidate)
pair_turn f a s i r0 m lpcs rings k c =
    set c k (pair f a s i r0 (get_or m.owns k no_path) (word m.n_AR_Q14 k) (get_or lpcs k []) (get_or rings k []))

-- the candidates of all paths that have moved on
unfoldable pub pairs : Fix → List ℤ → Common → ℕ → ℕ → Moves → List (List ℤ) → List (List (List ℤ)) → List (List Candidate)
pairs f a s i r0 m lpcs rings =
    iter (pair_turn f a s i r0 m lpcs rings) f.«nStates» (replicate 4 (replicate 2 no_candidate))

-- ---- each path takes its first candidate
-- one path
abbrev pub take_turn : List (List Candidate) → ℕ → ℕ → ℕ → Paths → Paths
take_turn c i r k p = path_set p k (taken (candidate_at c k 0) i r (path_at p k))

-- n paths
unfoldable pub taken_all : List (List Candidate) → ℕ → ℕ → ℕ → Paths → Paths
taken_all c n i r p = iter (take_turn c i r) n p
