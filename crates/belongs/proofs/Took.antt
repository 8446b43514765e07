-- What each path is after a sample: a copy of another or itself, with one of the candidates taken. Assumes nothing.
use Prim.Native.Nat.{ℕ, ◌<◌, ◌≤◌}
use native.Mathlib.Omega.{arith}
use mathlib.Core.Path.{◌≡◌, refl, sym, ap, ◌∙◌, subst}
use mathlib.Core.Bool.{Bool, true, false, ◌&&◌}
use mathlib.Core.List.{List, [], ◌∷◌}
use lib.ListN.{get_or, set, length, length-set}
use lib.Seq.{get_or-set_same, get_or-set_other}
use lib.Dec.{eqb}
use borrow.Author.Tests.{eqb-true, eqb-false}
use lib.IntN.{ℤ}
use Rattle.fixed.specs.Iter.{iter, either}
use Rattle.fixed.specs.Row.{word}
use Rattle.fixed.proofs.Iters.{iter-rel, either-all, cases}
use Rattle.fixed.proofs.Each.{each_turn, each_long, each-past, each_in}
use Rattle.seeds.specs.Generator.{rand}
use Rattle.residuals.specs.Residual.{seed_with}
use Rattle.path.specs.declared.structs.Path.{Path}
use Rattle.path.specs.declared.structs.Candidate.{Candidate}
use Rattle.path.specs.declared.structs.Fix.{Fix}
use Rattle.path.specs.declared.structs.Swap.{Swap}
use Rattle.path.specs.Data.{no_path, no_candidate, Paths, paths, Running, Rows, candidate_at, ring_q, ring_at}
use Rattle.path.specs.Path.{moved}
use Rattle.path.specs.Taken.{taken_own, taken_rings, taken}
use Rattle.winner.specs.Winner.{least_of}
use Rattle.places.specs.Places.{down, delayed}
use Rattle.steps.specs.Among.{Rule, copied, replaced, moved_over}
use Rattle.steps.specs.Each.{moves, take_turn, taken_all}
use Rattle.steps.specs.Settled.{leaving, replacing, settled}
use Rattle.steps.specs.Sample.{tried, sample}
use Rattle.steps.specs.Turn.{took_from, took}
use Rattle.steps.specs.Carried.{candidates_at, fined_at, swap_at}
use Rattle.heard.proofs.One.{own-took, RingsTook, rings-took}
use Rattle.belongs.specs.Used.{source_of}
use Rattle.belongs.proofs.Tried.{moved-words, moved_at, moved-long, fined-long}

-- ---- the replacement
-- a row of anything, one for each path, after it
pub copied_at : {A : Type 0} (d : A) (l : List A) (s : Swap) (k : ℕ) → s.to < length l
    → get_or (either s.yes (set l s.to (get_or l s.by d)) l) k d ≡ get_or l (source_of s k) d
copied_at d l s k h = go s.yes
  where
    go : (b : Bool) → get_or (either b (set l s.to (get_or l s.by d)) l) k d ≡ get_or l (either (b && eqb k s.to) s.by k) d
    go true =
        cases (eqb k s.to)
        (λ e. rw (e, eqb-true k s.to e) (get_or-set_same l s.to (get_or l s.by d) d h))
        (λ e. rw e (get_or-set_other l s.to k (get_or l s.by d) d (eqb-false k s.to e)))
    go false = refl

pub copied-long : {A : Type 0} (d : A) (l : List A) (s : Swap) → length (either s.yes (set l s.to (get_or l s.by d)) l) ≡ length l
copied-long d l s =
    either-all (λ z. length z ≡ length l) s.yes (set l s.to (get_or l s.by d)) l (λ e. length-set l s.to (get_or l s.by d)) (λ e. refl)

-- so are the paths' own words and their rings
replaced-is : (rule : Rule) (s : Swap) (i : ℕ) (p : Paths)
    → ((replaced rule s i p).owns ≡ either s.yes (set p.owns s.to (get_or p.owns s.by no_path)) p.owns)
    × ((replaced rule s i p).rings ≡ either s.yes (set p.rings s.to (get_or p.rings s.by [])) p.rings)
unfolding replaced copied
replaced-is rule s i p = go s.yes
  where
    go : (b : Bool)
        → ((either b (copied rule s.to s.by i p) p).owns ≡ either b (set p.owns s.to (get_or p.owns s.by no_path)) p.owns)
        × ((either b (copied rule s.to s.by i p) p).rings ≡ either b (set p.rings s.to (get_or p.rings s.by [])) p.rings)
    go true = (refl, refl)
    go false = (refl, refl)

-- the candidate that path k takes: the second of the path that it becomes, or its first
abbrev pub cand_of : List (List Candidate) → Swap → ℕ → Candidate
cand_of d s k = either (s.yes && eqb k s.to) (candidate_at d s.by 1) (candidate_at d k 0)

moved-cand : (d : List (List Candidate)) (s : Swap) (k : ℕ) → s.to < length d → candidate_at (moved_over d s) k 0 ≡ cand_of d s k
unfolding moved_over
moved-cand d s k h = go s.yes
  where
    row : List Candidate
    row = candidate_at d s.by 1 ∷ candidate_at d s.to 1 ∷ []

    go : (b : Bool)
        → candidate_at (either b (set d s.to (candidate_at d s.by 1 ∷ candidate_at d s.to 1 ∷ [])) d) k 0
        ≡ either (b && eqb k s.to) (candidate_at d s.by 1) (candidate_at d k 0)
    go true =
        cases (eqb k s.to)
        (λ e. rw (e, eqb-true k s.to e) (ap (λ (z : List Candidate). get_or z 0 no_candidate) (get_or-set_same d s.to row [] h)))
        (λ e. rw e (ap (λ (z : List Candidate). get_or z 0 no_candidate) (get_or-set_other d s.to k row [] (eqb-false k s.to e))))
    go false = refl

-- ---- each path takes its candidate
-- what path k becomes
abbrev own_took : List (List Candidate) → ℕ → Path → Path
own_took c k o = taken_own (candidate_at c k 0) o

abbrev ring_took : List (List Candidate) → ℕ → List Path → ℕ → List (List ℤ) → List (List ℤ)
ring_took c r owns k ring = taken_rings (candidate_at c k 0) r (own_took c k (get_or owns k no_path)).«Seed» ring

-- the first j paths have taken theirs
record TakenSoFar (c : List (List Candidate)) (r : ℕ) (p : Paths) (j : ℕ) (a b : Paths) : Type 0 where
  owns : a.owns ≡ iter (each_turn no_path (own_took c)) j p.owns
  rings : a.rings ≡ iter (each_turn [] (ring_took c r p.owns)) j p.rings

-- by what they were: a path's own words and rings are written at its turn, and at no other
taken-so-far : (c : List (List Candidate)) (n i r : ℕ) (p : Paths) → TakenSoFar c r p n (taken_all c n i r p) (taken_all c n i r p)
unfolding taken_all taken
taken-so-far c n i r p =
    iter-rel (TakenSoFar c r p) (take_turn c i r) (take_turn c i r) n
    (λ j q a b s.
    let e : get_or a.owns j no_path ≡ get_or p.owns j no_path =
    ap (λ (z : List Path). get_or z j no_path) s.owns ∙ each-past no_path (own_took c) j p.owns j (omega arith) in
    let l = iter (each_turn [] (ring_took c r p.owns)) j p.rings in
    record {
      owns = ap (λ (z : List Path). set z j (own_took c j (get_or z j no_path))) s.owns;
      rings =
          ap (λ (z : List (List (List ℤ))). set z j (ring_took c r a.owns j (get_or z j []))) s.rings
          ∙ ap (λ (o : Path). set l j (taken_rings (candidate_at c j 0) r (own_took c j o).«Seed» (get_or l j []))) e;
    })
    p p (record { owns = refl; rings = refl })

-- ---- so each path after the sample
-- path k after the sample, from path j before it: it took candidate c, at place r of the rings
pub record Became (c : Candidate) (r j k : ℕ) (p q : Paths) : Type 0 where
  pub seed : (get_or q.owns k no_path).«Seed» ≡ seed_with (rand (get_or p.owns j no_path).«Seed») c.Q_Q10
  pub init : (get_or q.owns k no_path).«SeedInit» ≡ (get_or p.owns j no_path).«SeedInit»
  pub cost : (get_or q.owns k no_path).RD_Q10 ≡ c.RD_Q10
  pub ring : RingsTook c r (get_or q.owns k no_path).«Seed» (get_or p.rings j []) (get_or q.rings k [])

module _ (rule : Rule) (f : Fix) (v : Rows) (x : List ℤ) (i : ℕ) (t : Running)
    (owns4 : length t.core.ps.owns ≡ 4) (rings4 : length t.core.ps.rings ≡ 4)
    (n4 : f.nStates ≤ 4) (to_in : (swap_at f v x i t).to < f.nStates) (by_in : (swap_at f v x i t).by < f.nStates) where
  abbrev s : Swap
  s = swap_at f v x i t

  abbrev d : List (List Candidate)
  d = moved_over (fined_at f v x i t) s

  abbrev r : ℕ
  r = down t.core.smpl_buf_idx

  abbrev q : Paths
  q = replaced rule s i (paths (moves f v.half v.ar t.core.ps.owns).owns t.core.ps.lpcs t.core.ps.rings)

  -- the paths are those of the replacement, each with its candidate taken; what leaves is the winner's
  took-is : ((took rule f v x i t).ps ≡ taken_all d f.nStates i r q)
      × ((took rule f v x i t).Q_Q10 ≡ ring_at q.rings (least_of (candidates_at f v x i t) 0 f.nStates) ring_q (delayed f r))
  unfolding took took_from sample tried settled replacing leaving fined_at swap_at candidates_at
  took-is = (refl, refl)

  pub source_in : (k : ℕ) → k < f.nStates → source_of s k < f.nStates
  source_in k h = either-all (λ (z : ℕ). z < f.nStates) (s.yes && eqb k s.to) s.by k (λ e. by_in) (λ e. h)

  -- the paths after the replacement: each has the words of its source
  q-own : (k : ℕ) → k < f.nStates → get_or q.owns k no_path ≡ (moved f v.half v.ar (get_or t.core.ps.owns (source_of s k) no_path)).own
  q-own k h =
      ap (λ (z : List Path). get_or z k no_path) (replaced-is rule s i _).0
      ∙ copied_at no_path (moves f v.half v.ar t.core.ps.owns).owns s k (omega (arith, moved-long f v x i t, owns4))
      ∙ moved_at f v x i t (source_of s k) (source_in k h) (omega (arith, source_in k h, owns4))

  q-ring : (k : ℕ) → get_or q.rings k [] ≡ get_or t.core.ps.rings (source_of s k) []
  q-ring k =
      ap (λ (z : List (List (List ℤ))). get_or z k []) (replaced-is rule s i _).1 ∙ copied_at [] t.core.ps.rings s k (omega (arith, rings4))

  q-long : (length q.owns ≡ 4) × (length q.rings ≡ 4)
  q-long = (
    ap (λ (z : List Path). length z) (replaced-is rule s i _).0
        ∙ copied-long no_path (moves f v.half v.ar t.core.ps.owns).owns s ∙ moved-long f v x i t ∙ owns4,
    ap (λ (z : List (List (List ℤ))). length z) (replaced-is rule s i _).1 ∙ copied-long [] t.core.ps.rings s ∙ rings4,
  )

  -- what leaves is of the winner's source
  pub leaves-q : (took rule f v x i t).Q_Q10
      ≡ word (get_or (get_or t.core.ps.rings (source_of s (least_of (candidates_at f v x i t) 0 f.nStates)) []) ring_q []) (delayed f r)
  leaves-q = took-is.1 ∙ ap (λ (z : List (List ℤ)). word (get_or z ring_q []) (delayed f r)) (q-ring (least_of (candidates_at f v x i t) 0 f.nStates))

  pub after-long : (length (took rule f v x i t).ps.owns ≡ 4) × (length (took rule f v x i t).ps.rings ≡ 4)
  after-long =
      let a = taken-so-far d f.nStates i r q in (
        ap (λ (z : Paths). length z.owns) took-is.0
            ∙ ap (λ (z : List Path). length z) a.owns ∙ each_long no_path (own_took d) f.nStates q.owns ∙ q-long.0,
        ap (λ (z : Paths). length z.rings) took-is.0
            ∙ ap (λ (z : List (List (List ℤ))). length z) a.rings
            ∙ each_long [] (ring_took d r q.owns) f.nStates q.rings ∙ q-long.1,
      )

  -- so path k comes from its source
  pub became : (k : ℕ) → k < f.nStates → length (get_or t.core.ps.rings (source_of s k) []) ≡ 5
      → Became (cand_of (fined_at f v x i t) s k) r (source_of s k) k t.core.ps (took rule f v x i t).ps
  became k h five =
      let a = taken-so-far d f.nStates i r q in
      let c = cand_of (fined_at f v x i t) s k in
      let ce : candidate_at d k 0 ≡ c = moved-cand (fined_at f v x i t) s k (omega (arith, fined-long f v x i t, to_in)) in
      let o = get_or t.core.ps.owns (source_of s k) no_path in
      let old = get_or t.core.ps.rings (source_of s k) [] in
      let own : get_or (took rule f v x i t).ps.owns k no_path ≡ taken_own c (moved f v.half v.ar o).own =
      ap (λ (z : Paths). get_or z.owns k no_path) took-is.0
      ∙ ap (λ (z : List Path). get_or z k no_path) a.owns
      ∙ each_in no_path (own_took d) f.nStates q.owns k h (omega (arith, q-long.0))
      ∙ ap (λ (z : Candidate). taken_own z (get_or q.owns k no_path)) ce
      ∙ ap (taken_own c) (q-own k h) in
      let sd = (get_or (took rule f v x i t).ps.owns k no_path).«Seed» in
      let se : (taken_own c (get_or q.owns k no_path)).«Seed» ≡ sd =
      ap (λ (z : Path). (taken_own c z).«Seed») (q-own k h) ∙ sym (ap (λ (z : Path). z.«Seed») own) in
      let rg : get_or (took rule f v x i t).ps.rings k [] ≡ taken_rings c r sd old =
      ap (λ (z : Paths). get_or z.rings k []) took-is.0
      ∙ ap (λ (z : List (List (List ℤ))). get_or z k []) a.rings
      ∙ each_in [] (ring_took d r q.owns) f.nStates q.rings k h (omega (arith, q-long.1))
      ∙ ap (λ (z : Candidate). taken_rings z r (taken_own z (get_or q.owns k no_path)).«Seed» (get_or q.rings k [])) ce
      ∙ ap (λ (z : ℤ). taken_rings c r z (get_or q.rings k [])) se
      ∙ ap (taken_rings c r sd) (q-ring k) in
      let ow = own-took c (moved f v.half v.ar o).own in
      let mw = moved-words f v.half v.ar o in
      record {
        seed = ap (λ (z : Path). z.«Seed») own ∙ ow.0 ∙ ap (λ (z : ℤ). seed_with z c.Q_Q10) mw.0;
        init = ap (λ (z : Path). z.«SeedInit») own ∙ ow.1.0 ∙ mw.1.0;
        cost = ap (λ (z : Path). z.RD_Q10) own ∙ ow.1.1;
        ring = subst (RingsTook c r sd old) (sym rg) (rings-took c r sd old five);
      }
