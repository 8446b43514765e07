-- What is chosen at a sample, as numbers: the totals of all candidates, who wins, who is replaced by whom, and what each path costs after it.
-- Assumes nothing.
use Prim.Native.Nat.{ℕ, suc, ◌+◌, ◌-◌, ◌*◌, ◌<◌, ◌≤◌}
use native.Mathlib.Omega.{arith}
use mathlib.Core.Path.{◌≡◌, refl, sym, ap, ◌∙◌, subst}
use mathlib.Core.Bool.{Bool, true, false, not, ◌&&◌}
use mathlib.Core.List.{List}
use lib.ListN.{get_or, length}
use lib.Dec.{eqb}
use lib.IntN.{ℤ}
use lib.Signed.{lt_z}
use Rattle.fixed.specs.Iter.{either}
use Rattle.fixed.proofs.Lin.{P, N, le-lin, lt-false}
use Rattle.seeds.specs.Generator.{rand}
use Rattle.path.specs.declared.structs.Fix.{Fix}
use Rattle.path.specs.declared.structs.Swap.{Swap}
use Rattle.path.specs.Data.{no_path, Running, Rows, candidate_at}
use Rattle.winner.specs.Winner.{least_of, worst_of}
use Rattle.winner.proofs.Ties.{least_first, dearest-first, least-in, dearest-in}
use Rattle.steps.specs.Among.{swap_of}
use Rattle.steps.specs.Shared.{common}
use Rattle.steps.specs.Carried.{candidates_at, fined_at, swap_at}
use Rattle.heard.proofs.Candidates.{Fair, Tabled}
use Rattle.belongs.specs.Costs.{range, fine}
use Rattle.belongs.specs.Used.{source_of, seed_of}
use Rattle.belongs.specs.Totals.{winner_at, agrees_at}
use Rattle.belongs.proofs.Costing.{Chose, total, costs, extra-most}
use Rattle.belongs.proofs.Living.{word_same}
use Rattle.belongs.proofs.Tried.{priced-at, fined-row-at, fair-at}
use Rattle.belongs.proofs.Took.{cand_of}
use Rattle.belongs.proofs.Offsets.{Off, off-add, off-wrap, off-fine, off-lt, number, number_is}

-- the swap is what the searches find
record SwapIs (f : Fix) (v : Rows) (x : List ℤ) (i : ℕ) (t : Running) (s : Swap) : Type 0 where
  to : s.to ≡ worst_of (fined_at f v x i t) f.nStates
  by : s.by ≡ least_of (fined_at f v x i t) 1 f.nStates
  yes : s.yes ≡ lt_z (candidate_at (fined_at f v x i t) s.by 1).RD_Q10 (candidate_at (fined_at f v x i t) s.to 0).RD_Q10

swap_is : (f : Fix) (v : Rows) (x : List ℤ) (i : ℕ) (t : Running) → SwapIs f v x i t (swap_at f v x i t)
unfolding swap_at swap_of
swap_is f v x i t = record { to = refl; by = refl; yes = refl }

-- who is fined
abbrev pub pen_at : Fix → Rows → List ℤ → ℕ → Running → ℕ → Bool
pen_at f v x i t k = not (agrees_at f v x i t k)

-- the cost of candidate m of path k, where it cost u before
abbrev pub cost_at : Fix → Rows → List ℤ → ℕ → Running → ℕ → (ℕ → ℕ) → ℕ → ℕ → ℕ
cost_at f v x i t g u m k = number (suc g) (candidate_at (candidates_at f v x i t) k m).RD_Q10 - u k

-- what path k costs after the sample
abbrev pub cost_next : Fix → Rows → List ℤ → ℕ → Running → ℕ → (ℕ → ℕ) → ℕ → ℕ
cost_next f v x i t g u k =
    costs fine u (cost_at f v x i t g u 0) (cost_at f v x i t g u 1) (pen_at f v x i t) (swap_at f v x i t).yes (swap_at f v x i t).to (swap_at f v x i t).by k

module _ (f : Fix) (v : Rows) (x : List ℤ) (i : ℕ) (t : Running) (n0 : 0 < f.nStates) (n4 : f.nStates ≤ 4) where
  abbrev s : Swap
  s = swap_at f v x i t

  pub to_in : s.to < f.nStates
  to_in = subst (λ (z : ℕ). z < f.nStates) (sym (swap_is f v x i t).to) (dearest-in (fined_at f v x i t) f.nStates n0)

  pub by_in : s.by < f.nStates
  by_in = subst (λ (z : ℕ). z < f.nStates) (sym (swap_is f v x i t).by) (least-in (fined_at f v x i t) 1 f.nStates n0)

  pub winner-in : winner_at f v x i t < f.nStates
  winner-in = least-in (candidates_at f v x i t) 0 f.nStates n0

  -- ---- the candidate that each path takes is fair, by the seed of the path that it comes from
  pub fair-next : Tabled f → length t.core.ps.owns ≡ 4 → (k : ℕ) → k < f.nStates
      → Fair f.offset_Q10 (rand (seed_of t (source_of s k))) (common f v x i t).LTP_pred_Q14 (cand_of (fined_at f v x i t) s k)
  fair-next tb owns4 k h = go (s.yes && eqb k s.to)
    where
      go : (b : Bool)
          → Fair f.offset_Q10 (rand (seed_of t (either b s.by k))) (common f v x i t).LTP_pred_Q14
          (either b (candidate_at (fined_at f v x i t) s.by 1) (candidate_at (fined_at f v x i t) k 0))
      go true = let z = by_in in (fair-at f v x i t tb s.by by_in (omega arith) (omega (arith, owns4))).1
      go false = (fair-at f v x i t tb k h (omega arith) (omega (arith, owns4))).0

  -- ---- the totals, where path k costs u k so far, after g samples
  module _ (tb : Tabled f) (owns4 : length t.core.ps.owns ≡ 4) (g : ℕ) (g320 : g < 320) (u : ℕ → ℕ)
      (cost : (k : ℕ) → k < f.nStates → Off g (get_or t.core.ps.owns k no_path).RD_Q10 (u k))
      (bound : (k : ℕ) → k < f.nStates → u k ≤ g * range + 12 * fine) where
    abbrev first : ℕ → ℕ
    first = cost_at f v x i t g u 0

    abbrev second : ℕ → ℕ
    second = cost_at f v x i t g u 1

    abbrev pen : ℕ → Bool
    pen = pen_at f v x i t

    record At (k : ℕ) : Type 0 where
      off1 : Off (suc g) (candidate_at (candidates_at f v x i t) k 0).RD_Q10 (u k + first k)
      off2 : Off (suc g) (candidate_at (candidates_at f v x i t) k 1).RD_Q10 (u k + second k)
      order : first k ≤ second k
      most : second k ≤ range

    costs-at : (k : ℕ) → k < f.nStates → At k
    costs-at k h =
        let r = priced-at f v x i t tb k h (omega arith) (omega (arith, owns4)) in
        let l1 = le-lin r.least in
        let l2 = le-lin r.order in
        let l3 = le-lin r.most in
        let a1 = P r.c1 + 1044180 - N r.c1 in
        let a2 = P r.c2 + 1044180 - N r.c2 in
        let e1 : P r.c1 + 1044180 ≡ a1 + N r.c1 = omega arith in
        let e2 : P r.c2 + 1044180 ≡ a2 + N r.c2 = omega arith in
        let b = bound k h in
        let o1 : Off (suc g) (candidate_at (candidates_at f v x i t) k 0).RD_Q10 (u k + a1) =
        subst (λ (z : ℤ). Off (suc g) z (u k + a1)) (sym r.rd1) (off-wrap (off-add (cost k h) r.c1 a1 e1) (omega arith) (omega arith)) in
        let o2 : Off (suc g) (candidate_at (candidates_at f v x i t) k 1).RD_Q10 (u k + a2) =
        subst (λ (z : ℤ). Off (suc g) z (u k + a2)) (sym r.rd2) (off-wrap (off-add (cost k h) r.c2 a2 e2) (omega arith) (omega arith)) in
        let q1 : u k + first k ≡ u k + a1 = let z = number_is o1 in omega arith in
        let q2 : u k + second k ≡ u k + a2 = let z = number_is o2 in omega arith in
        record {
          off1 = subst (λ (z : ℕ). Off (suc g) (candidate_at (candidates_at f v x i t) k 0).RD_Q10 z) (sym q1) o1;
          off2 = subst (λ (z : ℕ). Off (suc g) (candidate_at (candidates_at f v x i t) k 1).RD_Q10 z) (sym q2) o2;
          order = omega arith;
          most = omega arith;
        }

    -- with the fines
    fined-1 : (k : ℕ) → k < f.nStates → Off (suc g) (candidate_at (fined_at f v x i t) k 0).RD_Q10 (total fine u first pen k)
    fined-1 k h =
        let r = costs-at k h in
        subst (λ (z : ℤ). Off (suc g) z (total fine u first pen k)) (sym (fined-row-at f v x i t k h (omega arith)).rd1)
        (off-fine (agrees_at f v x i t k) r.off1 (omega arith) (omega (arith, r.order, r.most, bound k h, extra-most fine (pen k))))

    fined-2 : (k : ℕ) → k < f.nStates → Off (suc g) (candidate_at (fined_at f v x i t) k 1).RD_Q10 (total fine u second pen k)
    fined-2 k h =
        let r = costs-at k h in
        subst (λ (z : ℤ). Off (suc g) z (total fine u second pen k)) (sym (fined-row-at f v x i t k h (omega arith)).rd2)
        (off-fine (agrees_at f v x i t k) r.off2 (omega arith) (omega (arith, r.most, bound k h, extra-most fine (pen k))))

    -- ---- so the choice among the words is one among these numbers
    pub chose : Chose fine f.nStates u (cost_at f v x i t g u 0) (cost_at f v x i t g u 1) (pen_at f v x i t) (winner_at f v x i t) s.to s.by s.yes
    chose =
        let c = candidates_at f v x i t in
        let d = fined_at f v x i t in
        let n = f.nStates in
        let z = swap_is f v x i t in
        record {
          order = λ k h. (costs-at k h).order;
          most = λ k h. (costs-at k h).most;
          v-in = winner-in;
          v-free = ap not (word_same refl);
          v-least = λ k h.
              let p = (costs-at k h).off1.is in
              let q = (costs-at (winner_at f v x i t) winner-in).off1.is in
              omega (arith, lt-false (candidate_at c k 0).RD_Q10 (candidate_at c (least_of c 0 n) 0).RD_Q10 ((least_first c 0 n).best k h));
          to_in = to_in;
          to-most = λ k h.
              subst (λ (o : ℕ). total fine u first pen k ≤ total fine u first pen o) (sym z.to)
              (let p = (fined-1 k h).is in
              let q = (fined-1 (worst_of d n) (dearest-in d n n0)).is in
              omega (arith, lt-false (candidate_at d (worst_of d n) 0).RD_Q10 (candidate_at d k 0).RD_Q10 ((dearest-first d n).best k h)));
          by_in = by_in;
          by-least = λ k h.
              subst (λ (o : ℕ). total fine u second pen o ≤ total fine u second pen k) (sym z.by)
              (let p = (fined-2 k h).is in
              let q = (fined-2 (least_of d 1 n) (least-in d 1 n n0)).is in
              omega (arith, lt-false (candidate_at d k 1).RD_Q10 (candidate_at d (least_of d 1 n) 1).RD_Q10 ((least_first d 1 n).best k h)));
          sw-is = z.yes ∙ off-lt (fined-2 s.by by_in) (fined-1 s.to to_in);
        }

    -- and what each path costs after the sample is the cost of the candidate that it takes
    pub cost-next : (k : ℕ) → k < f.nStates → Off (suc g) (cand_of (fined_at f v x i t) s k).RD_Q10 (cost_next f v x i t g u k)
    cost-next k h = go (s.yes && eqb k s.to)
      where
        go : (b : Bool)
            → Off (suc g) (either b (candidate_at (fined_at f v x i t) s.by 1) (candidate_at (fined_at f v x i t) k 0)).RD_Q10
            (either b (total fine u second pen s.by) (total fine u first pen k))
        go true = fined-2 s.by by_in
        go false = fined-1 k h
