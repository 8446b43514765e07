-- Ties: of paths that cost the same, a search finds the lowest. So do the searches at a sample: the winner and the
-- cheapest second candidate (`least_of`), and the dearest first one (`worst_of`). Assumes nothing.
use Prim.Native.Nat.{ℕ, ◌<◌}
use mathlib.Core.Path.{◌≡◌, refl}
use mathlib.Core.List.{List, [], ◌∷◌}
use lib.IntN.{ℤ, pos}
use lib.Signed.{lt_z}
use Rattle.fixed.proofs.Iters.{found-less}
use Rattle.fixed.proofs.Searches.{First, least-of, most-of}
use Rattle.path.specs.declared.structs.Candidate.{Candidate}
use Rattle.path.specs.Data.{candidate_at}
use Rattle.winner.specs.Winner.{least_of, worst_of}

-- the total of candidate m of path k
abbrev cost : List (List Candidate) → ℕ → ℕ → ℤ
cost c m k = (candidate_at c k m).RD_Q10

-- the cheapest: no path is cheaper, and every lower one is dearer
pub least_first : (c : List (List Candidate)) (m n : ℕ) → First (λ k w. lt_z (cost c m k) (cost c m w)) n (least_of c m n)
unfolding least_of
least_first c m n = least-of (cost c m) n

-- the dearest: no path is dearer, and every lower one is cheaper
pub dearest-first : (c : List (List Candidate)) (n : ℕ) → First (λ k w. lt_z (cost c 0 w) (cost c 0 k)) n (worst_of c n)
unfolding worst_of
dearest-first c n = most-of (cost c 0) n

-- what they find is one of the paths
pub least-in : (c : List (List Candidate)) (m n : ℕ) → 0 < n → least_of c m n < n
unfolding least_of
least-in c m n h = found-less (λ k w. lt_z (cost c m k) (cost c m w)) n h

pub dearest-in : (c : List (List Candidate)) (n : ℕ) → 0 < n → worst_of c n < n
unfolding worst_of
dearest-in c n h = found-less (λ k w. lt_z (cost c 0 w) (cost c 0 k)) n h

-- ---- four paths by computation, each with the totals of its two candidates
abbrev costing : ℤ → Candidate
costing rd =
    record {
      Q_Q10 = pos 0;
      RD_Q10 = rd;
      xq_Q14 = pos 0;
      LF_AR_Q14 = pos 0;
      Diff_Q14 = pos 0;
      sLTP_shp_Q14 = pos 0;
      LPC_exc_Q14 = pos 0;
    }

abbrev tied : List (List Candidate)
tied =
    (costing (pos 5) ∷ costing (pos 9) ∷ [])
    ∷ (costing (pos 3) ∷ costing (pos 7) ∷ [])
    ∷ (costing (pos 3) ∷ costing (pos 7) ∷ [])
    ∷ (costing (pos 5) ∷ costing (pos 8) ∷ [])
    ∷ []

-- paths 1 and 2 tie as winner: it is 1
pub tied-winner : least_of tied 0 4 ≡ 1
unfolding least_of
tied-winner = refl

-- paths 0 and 3 tie as the dearest: it is 0
pub tied-dearest : worst_of tied 4 ≡ 0
unfolding worst_of
tied-dearest = refl

-- paths 1 and 2 tie as the cheapest second candidate: it is 1
pub tied-second : least_of tied 1 4 ≡ 1
unfolding least_of
tied-second = refl
