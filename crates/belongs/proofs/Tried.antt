-- What the paths try at one sample: the costs of each path's two candidates, their levels and excitations, and who is fined. Assumes nothing.
use Prim.Native.Nat.{ℕ, ◌<◌}
use native.Mathlib.Omega.{arith}
use mathlib.Core.Path.{◌≡◌, refl, sym, ap, ◌∙◌, subst}
use mathlib.Core.Bool.{Bool, true, false}
use mathlib.Core.List.{List, [], ◌∷◌}
use lib.ListN.{get_or, set, length, replicate}
use lib.IntN.{ℤ, pos, negsuc, ◌+ℤ◌}
use lib.Signed.{◌≤ℤ◌}
use Rattle.fixed.specs.Iter.{iter, either}
use Rattle.fixed.specs.Row.{word}
use Rattle.fixed.specs.Wrap.{wrap32}
use Rattle.fixed.proofs.Iters.{iter-rel}
use Rattle.fixed.proofs.Each.{each_turn, each_long, each_in}
use Rattle.seeds.specs.Generator.{rand}
use Rattle.choice.specs.declared.candidate.Choice.{Choice}
use Rattle.choice.specs.RustChoice.{choice}
use Rattle.choice.specs.Ranges.{Costs}
use Rattle.choice.proofs.Table.{sample-costs}
use Rattle.path.specs.declared.structs.Path.{Path}
use Rattle.path.specs.declared.structs.Candidate.{Candidate}
use Rattle.path.specs.declared.structs.Fix.{Fix}
use Rattle.path.specs.declared.structs.Halves.{Halves}
use Rattle.path.specs.declared.structs.Common.{Common}
use Rattle.path.specs.declared.structs.Terms.{Terms}
use Rattle.path.specs.declared.structs.Moves.{Moves}
use Rattle.path.specs.Data.{no_path, no_candidate, Running, Rows}
use Rattle.path.specs.Path.{moved, candidate_of, terms_of, residual_of, pair_from, pair_of, pair}
use Rattle.path.specs.Taken.{penalty, raised}
use Rattle.penalty.specs.Penalty.{same_word, raised_unless, penalised}
use Rattle.steps.specs.Each.{move_turn, unmoved, moves, pairs}
use Rattle.steps.specs.Shared.{common}
use Rattle.steps.specs.Carried.{candidates_at, fined_at}
use Rattle.heard.proofs.Candidates.{Fair, Both, Tabled, pair-fair, raised-fair, unless-both}
use Rattle.belongs.specs.Used.{seed_of}
use Rattle.belongs.specs.Totals.{winner_at, mark_at, agrees_at}

-- ---- the generators move on
move-owns : (f : Fix) (h : Halves) (ar : List ℤ) (ps : List Path) → (moves f h ar ps).owns ≡ iter (each_turn no_path (λ k p. (moved f h ar p).own)) f.nStates ps
unfolding moves
move-owns f h ar ps =
    iter-rel (λ j (m : Moves) (l : List Path). m.owns ≡ l) (move_turn f h ar) (each_turn no_path (λ k p. (moved f h ar p).own)) f.nStates
    (λ j q m l e. ap (λ (z : List Path). set z j (moved f h ar (get_or z j no_path)).own) e) (unmoved ps) ps refl

pub moved-words : (f : Fix) (h : Halves) (ar : List ℤ) (p : Path)
    → ((moved f h ar p).own.«Seed» ≡ rand p.«Seed») × (((moved f h ar p).own.«SeedInit» ≡ p.«SeedInit») × ((moved f h ar p).own.RD_Q10 ≡ p.RD_Q10))
unfolding moved
moved-words f h ar p = (refl, (refl, refl))

-- ---- the costs of a path's two candidates, from the running cost rd
pub record Priced (rd : ℤ) (row : List Candidate) : Type 0 where
  pub c1 : ℤ
  pub c2 : ℤ
  pub least : negsuc 1044179 ≤ℤ c1
  pub order : c1 ≤ℤ c2
  pub most : c2 ≤ℤ pos 1045828
  pub rd1 : (get_or row 0 no_candidate).RD_Q10 ≡ wrap32 (rd +ℤ c1)
  pub rd2 : (get_or row 1 no_candidate).RD_Q10 ≡ wrap32 (rd +ℤ c2)

-- by the choice's own bounds
from-priced : (t : Terms) (rd : ℤ) (c : Choice) → Costs c → Priced rd (pair_from t rd c)
unfolding pair_from candidate_of
from-priced t rd c k = record { c1 = c.first_cost; c2 = c.second_cost; least = k.least; order = k.order; most = k.most; rd1 = refl; rd2 = refl }

residual-costs : (f : Fix) → Tabled f → (t : Terms) (nLTP : ℤ) → Costs (choice (residual_of t nLTP) f.Lambda_Q10 f.offset_Q10)
unfolding residual_of
residual-costs f k t nLTP = rw k.offset (sample-costs t.«Seed» _ f.Lambda_Q10 k.kind k.type k.kind2 k.type1 k.lambda)

pair-priced : (f : Fix) → Tabled f → (a : List ℤ) (s : Common) (i r0 : ℕ) (p : Path) (n : ℤ) (lpc : List ℤ) (ring : List (List ℤ))
    → Priced p.RD_Q10 (pair f a s i r0 p n lpc ring)
unfolding pair pair_of
pair-priced f k a s i r0 p n lpc ring =
    let t = terms_of f a s i r0 p n lpc ring in
    from-priced t p.RD_Q10 _ (residual-costs f k t s.n_LTP_Q14)

-- ---- the rows of all candidates: four, one for each path
pairs-at : (f : Fix) (a : List ℤ) (s : Common) (i r0 : ℕ) (m : Moves) (lpcs : List (List ℤ)) (rings : List (List (List ℤ))) (k : ℕ) → k < f.nStates → k < 4
    → get_or (pairs f a s i r0 m lpcs rings) k [] ≡ pair f a s i r0 (get_or m.owns k no_path) (word m.n_AR_Q14 k) (get_or lpcs k []) (get_or rings k [])
unfolding pairs
pairs-at f a s i r0 m lpcs rings k h h4 =
    each_in [] (λ j c. pair f a s i r0 (get_or m.owns j no_path) (word m.n_AR_Q14 j) (get_or lpcs j []) (get_or rings j [])) f.nStates
    (replicate 4 (replicate 2 no_candidate))
    k
    h
    (omega arith)

pairs-long : (f : Fix) (a : List ℤ) (s : Common) (i r0 : ℕ) (m : Moves) (lpcs : List (List ℤ)) (rings : List (List (List ℤ)))
    → length (pairs f a s i r0 m lpcs rings) ≡ 4
unfolding pairs
pairs-long f a s i r0 m lpcs rings =
    each_long [] (λ j c. pair f a s i r0 (get_or m.owns j no_path) (word m.n_AR_Q14 j) (get_or lpcs j []) (get_or rings j [])) f.nStates
    (replicate 4 (replicate 2 no_candidate))
    ∙ refl

-- ---- a row with the fines: only the totals move
abbrev pub fined_rd : Bool → ℤ → ℤ
fined_rd same rd = either same rd (wrap32 (rd +ℤ penalty))

raised-total : (c : Candidate) → (raised c).RD_Q10 ≡ wrap32 (c.RD_Q10 +ℤ penalty)
unfolding raised
raised-total c = refl

pub record FinedRow (same : Bool) (row new : List Candidate) : Type 0 where
  pub rd1 : (get_or new 0 no_candidate).RD_Q10 ≡ fined_rd same (get_or row 0 no_candidate).RD_Q10
  pub rd2 : (get_or new 1 no_candidate).RD_Q10 ≡ fined_rd same (get_or row 1 no_candidate).RD_Q10

fined-row : (row : List Candidate) (state mark : ℤ) → FinedRow (same_word state mark) row (raised_unless row state mark)
unfolding raised_unless
fined-row row state mark = go (same_word state mark)
  where
    go : (b : Bool) → FinedRow b row (either b row (raised (get_or row 0 no_candidate) ∷ raised (get_or row 1 no_candidate) ∷ []))
    go true = record { rd1 = refl; rd2 = refl }
    go false = record { rd1 = raised-total (get_or row 0 no_candidate); rd2 = raised-total (get_or row 1 no_candidate) }

-- ---- all paths at sample i
module _ (f : Fix) (v : Rows) (x : List ℤ) (i : ℕ) (t : Running) where
  abbrev ms : Moves
  ms = moves f v.half v.ar t.core.ps.owns

  pub moved_at : (k : ℕ) → k < f.nStates → k < length t.core.ps.owns
      → get_or ms.owns k no_path ≡ (moved f v.half v.ar (get_or t.core.ps.owns k no_path)).own
  moved_at k h l =
      ap (λ (z : List Path). get_or z k no_path) (move-owns f v.half v.ar t.core.ps.owns)
      ∙ each_in no_path (λ j p. (moved f v.half v.ar p).own) f.nStates t.core.ps.owns k h l

  pub moved-long : length ms.owns ≡ length t.core.ps.owns
  moved-long =
      ap (λ (z : List Path). length z) (move-owns f v.half v.ar t.core.ps.owns)
      ∙ each_long no_path (λ j p. (moved f v.half v.ar p).own) f.nStates t.core.ps.owns

  -- what each path tries
  tried-long : length (candidates_at f v x i t) ≡ 4
  unfolding candidates_at
  tried-long = pairs-long f v.a _ i _ _ _ _

  -- .. when it moved to p
  abbrev pair_by : ℕ → Path → List Candidate
  pair_by k p =
      pair f v.a (common f v x i t) i t.core.smpl_buf_idx p (word ms.n_AR_Q14 k) (get_or t.core.ps.lpcs k []) (get_or t.core.ps.rings k [])

  tried-at : (k : ℕ) → k < f.nStates → k < 4 → get_or (candidates_at f v x i t) k [] ≡ pair_by k (get_or ms.owns k no_path)
  unfolding candidates_at
  tried-at k h h4 = pairs-at f v.a (common f v x i t) i t.core.smpl_buf_idx ms t.core.ps.lpcs t.core.ps.rings k h h4

  -- its totals come from its running cost
  pub priced-at : Tabled f → (k : ℕ) → k < f.nStates → k < 4 → k < length t.core.ps.owns
      → Priced (get_or t.core.ps.owns k no_path).RD_Q10 (get_or (candidates_at f v x i t) k [])
  priced-at tb k h h4 l =
      let p = get_or ms.owns k no_path in
      let q = get_or t.core.ps.owns k no_path in
      subst (Priced q.RD_Q10) (sym (tried-at k h h4))
      (subst (λ (rd : ℤ). Priced rd (pair_by k p)) (ap (λ (z : Path). z.RD_Q10) (moved_at k h l) ∙ (moved-words f v.half v.ar q).1.1)
      (pair-priced f tb v.a (common f v x i t) i t.core.smpl_buf_idx p (word ms.n_AR_Q14 k) (get_or t.core.ps.lpcs k [])
      (get_or t.core.ps.rings k [])))

  -- ---- who is fined: whose word at the delay is not the winner's
  abbrev winners_mark : ℤ
  winners_mark = mark_at f t (winner_at f v x i t)

  fined-at : (k : ℕ) → k < f.nStates → k < 4 → get_or (fined_at f v x i t) k [] ≡ raised_unless (get_or (candidates_at f v x i t) k []) (mark_at f t k) winners_mark
  unfolding fined_at penalised
  fined-at k h h4 =
      each_in [] (λ j row. raised_unless row (mark_at f t j) winners_mark) f.nStates (candidates_at f v x i t) k h (omega (arith, tried-long))

  pub fined-long : length (fined_at f v x i t) ≡ 4
  unfolding fined_at penalised
  fined-long = each_long [] (λ j row. raised_unless row (mark_at f t j) winners_mark) f.nStates (candidates_at f v x i t) ∙ tried-long

  pub fined-row-at : (k : ℕ) → k < f.nStates → k < 4
      → FinedRow (agrees_at f v x i t k) (get_or (candidates_at f v x i t) k []) (get_or (fined_at f v x i t) k [])
  fined-row-at k h h4 =
      subst (FinedRow (agrees_at f v x i t k) (get_or (candidates_at f v x i t) k [])) (sym (fined-at k h h4))
      (fined-row (get_or (candidates_at f v x i t) k []) (mark_at f t k) winners_mark)

  -- fined or not, both candidates are fair: of the level of a pulse, and of its excitation by the stepped seed
  pub fair-at : Tabled f → (k : ℕ) → k < f.nStates → k < 4 → k < length t.core.ps.owns
      → Both (Fair f.offset_Q10 (rand (seed_of t k)) (common f v x i t).LTP_pred_Q14) (get_or (fined_at f v x i t) k [])
  fair-at tb k h h4 l =
      let p = get_or ms.owns k no_path in
      let ltp = (common f v x i t).LTP_pred_Q14 in
      let F = Fair f.offset_Q10 (rand (seed_of t k)) ltp in
      subst (Both F) (sym (fined-at k h h4))
      (unless-both F (raised-fair f.offset_Q10 (rand (seed_of t k)) ltp) (get_or (candidates_at f v x i t) k []) (mark_at f t k) winners_mark
      (subst (Both F) (sym (tried-at k h h4))
      (subst (λ (s : ℤ). Both (Fair f.offset_Q10 s ltp) (pair_by k p))
      (ap (λ (z : Path). z.«Seed») (moved_at k h l) ∙ (moved-words f v.half v.ar (get_or t.core.ps.owns k no_path)).0)
      (pair-fair f tb v.a (common f v x i t) i t.core.smpl_buf_idx p (word ms.n_AR_Q14 k) (get_or t.core.ps.lpcs k [])
      (get_or t.core.ps.rings k [])))))
