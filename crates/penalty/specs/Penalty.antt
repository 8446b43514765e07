-- The penalty of a path that was another one than the winner at the decision delay: 'RandState' in silk_noise_shape_quantizer_del_dec, and
-- docs/RULES.md, "One sample". Assumes nothing.
use Rattle.std.specs.Prelude.{ℕ, Bool, List, [], ◌∷◌, get_or, set, ℤ, eqb}
use Rattle.std.proofs.Common.{of_z}
use Rattle.std.specs.Int.{w32}
use Rattle.fixed.specs.Iter.{iter, either}
use Rattle.path.specs.declared.structs.Candidate.{Candidate}
use Rattle.path.specs.Data.{no_candidate, ring_rand_state, ring_at}
use Rattle.path.specs.Taken.{raised}

-- are two words the same?
unfoldable pub same_word : ℤ → ℤ → Bool
same_word a b = eqb (of_z w32 a) (of_z w32 b)

-- both candidates of a path, raised where its RandState is not the winner's
unfoldable pub raised_unless : List Candidate → ℤ → ℤ → List Candidate
raised_unless row state mark = either (same_word state mark) row (raised (get_or row 0 no_candidate) ∷ raised (get_or row 1 no_candidate) ∷ [])

-- one path
abbrev pub penalty_turn : List (List (List ℤ)) → ℕ → ℕ → ℕ → List (List Candidate) → List (List Candidate)
penalty_turn rings w last k d = set d k (raised_unless (get_or d k []) (ring_at rings k ring_rand_state last) (ring_at rings w ring_rand_state last))

-- the candidates of n paths with the penalties, where w won and `last` is the place at the delay
unfoldable pub penalised : List (List Candidate) → List (List (List ℤ)) → ℕ → ℕ → ℕ → List (List Candidate)
penalised c rings n w last = iter (penalty_turn rings w last) n c
