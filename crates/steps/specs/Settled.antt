-- A sample, once every path has its two candidates: winner, penalty and replacement, then what leaves. docs/RULES.md, "One sample". Assumes nothing.
use Rattle.std.specs.Prelude.{ℕ, List, ℤ}
use Rattle.path.specs.declared.structs.Candidate.{Candidate}
use Rattle.path.specs.declared.structs.Sampled.{Sampled}
use Rattle.path.specs.Data.{Paths, ring_q, ring_xq, ring_pred, ring_shape, ring_at}
use Rattle.steps.specs.Among.{swap_of, Rule, replaced, moved_over}
use Rattle.penalty.specs.Penalty.{penalised}
use Rattle.winner.specs.Winner.{least_of}
use Rattle.steps.specs.Each.{taken_all}

-- what it leaves: the paths, and the words of the sample that is a decision delay old
pub record Settled : Type 0 where
  pub ps : Paths
  pub Q_Q10 : ℤ
  pub Xq_Q14 : ℤ
  pub Pred_Q15 : ℤ
  pub Shape_Q14 : ℤ

-- the code's struct with the paths beside it
abbrev pub settled_of : Sampled → Paths → Settled
settled_of s p = record { ps = p; Q_Q10 = s.Q_Q10; Xq_Q14 = s.Xq_Q14; Pred_Q15 = s.Pred_Q15; Shape_Q14 = s.Shape_Q14 }

-- the winner w's words at the place `last` leave, before every path takes its first candidate of c
unfoldable pub leaving : List (List Candidate) → ℕ → ℕ → ℕ → ℕ → ℕ → Paths → Settled
leaving c n i r last w p =
    record {
      ps = taken_all c n i r p;
      Q_Q10 = ring_at p.rings w ring_q last;
      Xq_Q14 = ring_at p.rings w ring_xq last;
      Pred_Q15 = ring_at p.rings w ring_pred last;
      Shape_Q14 = ring_at p.rings w ring_shape last;
    }

-- from the penalised candidates d on: the replacement, then what leaves
unfoldable pub replacing : Rule → List (List Candidate) → ℕ → ℕ → ℕ → ℕ → ℕ → Paths → Settled
replacing rule d n i r last w p = leaving (moved_over d (swap_of d n)) n i r last w (replaced rule (swap_of d n) i p)

-- from the candidates c on: winner, penalty, replacement. i the sample's place in its subframe, r the ring's place now, last the place at the delay
unfoldable pub settled : Rule → List (List Candidate) → ℕ → ℕ → ℕ → ℕ → Paths → Settled
settled rule c n i r last p =
    replacing rule (penalised c p.rings n (least_of c 0 n) last) n i r last (least_of c 0 n) p
