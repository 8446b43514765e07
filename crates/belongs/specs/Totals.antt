-- The totals of a sample, as sums that don't wrap. Assumes nothing.
use Rattle.std.specs.Prelude.{ℕ, ◌≡◌, Bool, List, get_or, ℤ, pos, negsuc, ◌+ℤ◌, ◌≤ℤ◌}
use Rattle.fixed.specs.Iter.{either}
use Rattle.path.specs.declared.structs.Fix.{Fix}
use Rattle.path.specs.Data.{no_path, Running, Rows, candidate_at, ring_rand_state, ring_at}
use Rattle.path.specs.Taken.{penalty}
use Rattle.winner.specs.Winner.{least_of}
use Rattle.penalty.specs.Penalty.{same_word}
use Rattle.places.specs.Places.{down, delayed}
use Rattle.steps.specs.Carried.{candidates_at, fined_at}

-- how far a total can go in a frame: down to 320 times the least cost of a sample
abbrev pub lowest_total : ℤ
lowest_total = negsuc 334137599

-- and up to 320 times the most, and 13 penalties
abbrev pub highest_total : ℤ
highest_total = pos 2079495411

-- the total z of a candidate, where the path cost rd before: the two costs and, unless the path agrees with the winner at the delay, the penalty, added
-- with no wrap; and how far it can go
pub record Summed (rd : ℤ) (agrees : Bool) (z : ℤ) : Type 0 where
  pub cost : ℤ
  pub least : negsuc 1044179 ≤ℤ cost
  pub most : cost ≤ℤ pos 1045828
  pub is : z ≡ either agrees (rd +ℤ cost) (rd +ℤ cost +ℤ penalty)
  pub low : lowest_total ≤ℤ z
  pub high : z ≤ℤ highest_total

-- the path whose first candidate is cheapest at sample i
abbrev pub winner_at : Fix → Rows → List ℤ → ℕ → Running → ℕ
winner_at f v x i t = least_of (candidates_at f v x i t) 0 f.nStates

-- RandState of path k at the decision delay
abbrev pub mark_at : Fix → Running → ℕ → ℤ
mark_at f t k = ring_at t.core.ps.rings k ring_rand_state (delayed f (down t.core.smpl_buf_idx))

-- is it the winner's?
abbrev pub agrees_at : Fix → Rows → List ℤ → ℕ → Running → ℕ → Bool
agrees_at f v x i t k = same_word (mark_at f t k) (mark_at f t (winner_at f v x i t))

-- both totals of path k at sample i
abbrev pub SummedAt : Fix → Rows → List ℤ → ℕ → Running → ℕ → Type 0
SummedAt f v x i t k =
    Summed (get_or t.core.ps.owns k no_path).RD_Q10 (agrees_at f v x i t k) (candidate_at (fined_at f v x i t) k 0).RD_Q10
    × Summed (get_or t.core.ps.owns k no_path).RD_Q10 (agrees_at f v x i t k) (candidate_at (fined_at f v x i t) k 1).RD_Q10
