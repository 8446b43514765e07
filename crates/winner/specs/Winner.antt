-- The winner among the paths at one sample, and the two searches of the replacement: lines 'RDmin_Q10 = ..' of silk_noise_shape_quantizer_del_dec,
-- and docs/RULES.md, "One sample". Costs here are totals, compared as they are, wrapped or not. Assumes nothing.
use Rattle.std.specs.Prelude.{ℕ, List, Bool}
use Rattle.std.specs.Int.Signed.{lt_z}
use Rattle.fixed.specs.Iter.{iter, either}
use Rattle.path.specs.declared.structs.Candidate.{Candidate}
use Rattle.path.specs.Data.{candidate_at}

-- the winner: the path whose first candidate's total is least, the lowest of them
abbrev pub least_turn : List (List Candidate) → ℕ → ℕ → ℕ → ℕ
least_turn c m k w = either (lt_z (candidate_at c k m).RD_Q10 (candidate_at c w m).RD_Q10) k w

-- the path whose candidate m is cheapest, of n paths, the lowest on ties
unfoldable pub least_of : List (List Candidate) → ℕ → ℕ → ℕ
least_of c m n = iter (least_turn c m) n 0

-- one path more in the search of the dearest first candidate
abbrev pub worst_turn : List (List Candidate) → ℕ → ℕ → ℕ
worst_turn c k w = either (lt_z (candidate_at c w 0).RD_Q10 (candidate_at c k 0).RD_Q10) k w

-- the path whose first candidate is dearest, the lowest on ties
unfoldable pub worst_of : List (List Candidate) → ℕ → ℕ
worst_of c n = iter (worst_turn c) n 0

-- ---- the three searches of the code are one
-- the first of n by an order: from what was found it goes on to k where k beats it
abbrev pub first_of : (ℕ → ℕ → Bool) → ℕ → ℕ
first_of beats n = iter (λ k w. either (beats k w) k w) n 0

-- does candidate m of path k cost less than that of path w?
abbrev pub cheaper : List (List Candidate) → ℕ → ℕ → ℕ → Bool
cheaper c m k w = lt_z (candidate_at c k m).RD_Q10 (candidate_at c w m).RD_Q10

-- does the first candidate of path k cost more than that of path w?
abbrev pub dearer : List (List Candidate) → ℕ → ℕ → Bool
dearer c k w = lt_z (candidate_at c w 0).RD_Q10 (candidate_at c k 0).RD_Q10
