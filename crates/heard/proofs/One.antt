-- One path at one sample: it wins, a replacement leaves it where it is, and it takes one of its two candidates. Assumes nothing.
use Prim.Native.Nat.{ℕ, ◌<◌}
use native.Mathlib.Omega.{arith}
use mathlib.Core.Path.{◌≡◌, refl, sym, ap, ◌∙◌, subst}
use mathlib.Core.List.{List, [], ◌∷◌}
use lib.ListN.{get_or, set, length, length-set}
use lib.Seq.{get_or-set_same, set-get_or}
use lib.IntN.{ℤ}
use lib.Signed.{lt_z}
use Rattle.fixed.specs.Iter.{iter}
use Rattle.fixed.specs.Shift.{shl32}
use Rattle.fixed.proofs.Iters.{either-all, either-alike}
use Rattle.seeds.specs.Generator.{rand}
use Rattle.residuals.specs.Residual.{seed_with}
use Rattle.path.specs.declared.structs.Path.{Path}
use Rattle.path.specs.declared.structs.Candidate.{Candidate}
use Rattle.path.specs.declared.structs.Fix.{Fix}
use Rattle.path.specs.declared.structs.Halves.{Halves}
use Rattle.path.specs.declared.structs.Common.{Common}
use Rattle.path.specs.declared.structs.Moves.{Moves}
use Rattle.path.specs.declared.structs.Swap.{Swap}
use Rattle.path.specs.Data.{no_path, Paths, paths, candidate_at, ring_rand_state, ring_q, ring_pred, ring_at}
use Rattle.path.specs.Path.{moved}
use Rattle.path.specs.Taken.{raised, taken_own, taken_rings, taken}
use Rattle.winner.specs.Winner.{least_of, worst_of}
use Rattle.penalty.specs.Penalty.{penalised}
use Rattle.steps.specs.Among.{Rule, swap_of, copied, replaced, moved_over}
use Rattle.steps.specs.Each.{move_turn, unmoved, moves, pairs, taken_all}
use Rattle.steps.specs.Settled.{Settled, leaving, replacing, settled}
use Rattle.steps.specs.Sample.{tried, sample}
use Rattle.heard.proofs.Candidates.{Fair, First, Tabled, pairs-fair, raised-fair, penalised-first, moved_over-first}

-- the levels in the rings of the first path
abbrev pub level_row : List (List (List ℤ)) → List ℤ
level_row rings = get_or (get_or rings 0 []) ring_q []

-- and its predictions
abbrev pub pred_row : List (List (List ℤ)) → List ℤ
pred_row rings = get_or (get_or rings 0 []) ring_pred []

-- the first path is there, with its five rings
pub record There (p : Paths) : Type 0 where
  pub own : 0 < length p.owns
  pub some : 0 < length p.rings
  pub five : length (get_or p.rings 0 []) ≡ 5

-- ---- the searches of one
one-least : (c : List (List Candidate)) (m : ℕ) → least_of c m 1 ≡ 0
unfolding least_of
one-least c m = either-alike (lt_z (candidate_at c 0 m).RD_Q10 (candidate_at c 0 m).RD_Q10) 0

one-worst : (c : List (List Candidate)) → worst_of c 1 ≡ 0
unfolding worst_of
one-worst c = either-alike (lt_z (candidate_at c 0 0).RD_Q10 (candidate_at c 0 0).RD_Q10) 0

one-swap : (d : List (List Candidate)) → ((swap_of d 1).to ≡ 0) × ((swap_of d 1).by ≡ 0)
unfolding swap_of
one-swap d = (one-worst d, one-least d 1)

-- ---- the replacement of a path by itself
copied-0 : (rule : Rule) (i : ℕ) (p : Paths) → ((copied rule 0 0 i p).owns ≡ p.owns) × ((copied rule 0 0 i p).rings ≡ p.rings)
unfolding copied
copied-0 rule i p = (set-get_or p.owns 0 no_path, set-get_or p.rings 0 [])

replaced-0 : (rule : Rule) (s : Swap) (i : ℕ) (p : Paths) → s.to ≡ 0 → s.by ≡ 0
    → ((replaced rule s i p).owns ≡ p.owns) × ((replaced rule s i p).rings ≡ p.rings)
unfolding replaced
replaced-0 rule s i p to by =
    rw (to, by)
    (either-all (λ (q : Paths). (q.owns ≡ p.owns) × (q.rings ≡ p.rings)) s.yes _ _ (λ e. copied-0 rule i p) (λ e. (refl, refl)))

-- ---- the path takes a candidate
-- its own words
pub own-took : (c : Candidate) (p : Path)
    → ((taken_own c p).«Seed» ≡ seed_with p.«Seed» c.Q_Q10) × (((taken_own c p).«SeedInit» ≡ p.«SeedInit») × ((taken_own c p).RD_Q10 ≡ c.RD_Q10))
unfolding taken_own
own-took c p = (refl, (refl, refl))

-- the rings of one path, one row each
pub record RingsTook (c : Candidate) (r : ℕ) (seed : ℤ) (old new : List (List ℤ)) : Type 0 where
  pub five : length new ≡ 5
  pub level : get_or new ring_q [] ≡ set (get_or old ring_q []) r c.Q_Q10
  pub pred : get_or new ring_pred [] ≡ set (get_or old ring_pred []) r (shl32 c.LPC_exc_Q14 1)
  pub mark : get_or new ring_rand_state [] ≡ set (get_or old ring_rand_state []) r seed

pub rings-took : (c : Candidate) (r : ℕ) (seed : ℤ) (l : List (List ℤ)) → length l ≡ 5 → RingsTook c r seed l (taken_rings c r seed l)
unfolding taken_rings
rings-took c r seed [] h = absurd (omega (arith, h))
rings-took c r seed (a ∷ []) h = absurd (omega (arith, h))
rings-took c r seed (a ∷ b ∷ []) h = absurd (omega (arith, h))
rings-took c r seed (a ∷ b ∷ d ∷ []) h = absurd (omega (arith, h))
rings-took c r seed (a ∷ b ∷ d ∷ e ∷ []) h = absurd (omega (arith, h))
rings-took c r seed (a ∷ b ∷ d ∷ e ∷ g ∷ l) h = record { five = h; level = refl; pred = refl; mark = refl }

-- the paths q after the first took a candidate of which F holds; before it Seed was s, SeedInit s0, and the rings these
pub record TookOne (F : Candidate → Type 0) (s s0 : ℤ) (r : ℕ) (rings : List (List (List ℤ))) (q : Paths) : Type 0 where
  pub c : Candidate
  pub fair : F c
  pub there : There q
  pub seed : (get_or q.owns 0 no_path).«Seed» ≡ seed_with s c.Q_Q10
  pub init : (get_or q.owns 0 no_path).«SeedInit» ≡ s0
  pub level : level_row q.rings ≡ set (level_row rings) r c.Q_Q10
  pub pred : pred_row q.rings ≡ set (pred_row rings) r (shl32 c.LPC_exc_Q14 1)

-- .. and what leaves at the delay is its own
pub record SettledOne (F : Candidate → Type 0) (s s0 : ℤ) (r last : ℕ) (rings : List (List (List ℤ))) (z : Settled) : Type 0 where
  pub took : TookOne F s s0 r rings z.ps
  pub out : z.Q_Q10 ≡ ring_at rings 0 ring_q last

-- .. from the first of the paths p
abbrev SettledFrom : (Candidate → Type 0) → ℕ → ℕ → Paths → Settled → Type 0
SettledFrom F r last p z = SettledOne F (get_or p.owns 0 no_path).«Seed» (get_or p.owns 0 no_path).«SeedInit» r last p.rings z

taken-own : (d : List (List Candidate)) (i r : ℕ) (p : Paths)
    → (taken_all d 1 i r p).owns ≡ set p.owns 0 (taken_own (candidate_at d 0 0) (get_or p.owns 0 no_path))
unfolding taken_all taken
taken-own d i r p = refl

taken-rings : (d : List (List Candidate)) (i r : ℕ) (p : Paths)
    → (taken_all d 1 i r p).rings
    ≡ set p.rings 0 (taken_rings (candidate_at d 0 0) r (taken_own (candidate_at d 0 0) (get_or p.owns 0 no_path)).«Seed» (get_or p.rings 0 []))
unfolding taken_all taken
taken-rings d i r p = refl

module _ (F : Candidate → Type 0) where
  taken-one : (d : List (List Candidate)) (i r : ℕ) (p : Paths) → First F d → There p
      → TookOne F (get_or p.owns 0 no_path).«Seed» (get_or p.owns 0 no_path).«SeedInit» r p.rings (taken_all d 1 i r p)
  taken-one d i r p k h =
      let c = candidate_at d 0 0 in
      let own = get_or p.owns 0 no_path in
      let ring = get_or p.rings 0 [] in
      let a : get_or (taken_all d 1 i r p).owns 0 no_path ≡ taken_own c own =
      ap (λ (z : List Path). get_or z 0 no_path) (taken-own d i r p) ∙ get_or-set_same p.owns 0 (taken_own c own) no_path h.own in
      let b : get_or (taken_all d 1 i r p).rings 0 [] ≡ taken_rings c r (taken_own c own).«Seed» ring =
      ap (λ (z : List (List (List ℤ))). get_or z 0 []) (taken-rings d i r p) ∙ get_or-set_same p.rings 0 _ [] h.some in
      let t = rings-took c r (taken_own c own).«Seed» ring h.five in
      record {
        c = c;
        fair = k.row.0;
        there =
            record {
              own = rw (taken-own d i r p, length-set) h.own;
              some = rw (taken-rings d i r p, length-set) h.some;
              five = ap (λ (z : List (List ℤ)). length z) b ∙ t.five;
            };
        seed = ap (λ (z : Path). z.«Seed») a ∙ (own-took c own).0;
        init = ap (λ (z : Path). z.«SeedInit») a ∙ (own-took c own).1.0;
        level = ap (λ (z : List (List ℤ)). get_or z ring_q []) b ∙ t.level;
        pred = ap (λ (z : List (List ℤ)). get_or z ring_pred []) b ∙ t.pred;
      }

  -- ---- winner, penalty and replacement before it
  leaving-one : (d : List (List Candidate)) (i r last : ℕ) (p : Paths) → First F d → There p
      → SettledFrom F r last p (leaving d 1 i r last 0 p)
  unfolding leaving
  leaving-one d i r last p k h = record { took = taken-one d i r p k h; out = refl }

  -- the same with paths of which the first has the same words
  leaving-same : (d : List (List Candidate)) (i r last : ℕ) (p p' : Paths) → p'.owns ≡ p.owns → p'.rings ≡ p.rings → First F d → There p
      → SettledFrom F r last p (leaving d 1 i r last 0 p')
  leaving-same d i r last p p' e f k h =
      let h' : There p' = record { own = rw e h.own; some = rw f h.some; five = rw f h.five } in
      let z = leaving d 1 i r last 0 p' in
      subst (λ (o : List Path). SettledOne F (get_or o 0 no_path).«Seed» (get_or o 0 no_path).«SeedInit» r last p.rings z) e
      (subst (λ (g : List (List (List ℤ))). SettledOne F (get_or p'.owns 0 no_path).«Seed» (get_or p'.owns 0 no_path).«SeedInit» r last g z) f
      (leaving-one d i r last p' k h'))

  replacing-one : (rule : Rule) (d : List (List Candidate)) (i r last w : ℕ) (p : Paths) → w ≡ 0 → First F d → There p
      → SettledFrom F r last p (replacing rule d 1 i r last w p)
  unfolding replacing
  replacing-one rule d i r last w p e k h =
      let z = one-swap d in
      let y = replaced-0 rule (swap_of d 1) i p z.0 z.1 in
      rw e (leaving-same (moved_over d (swap_of d 1)) i r last p (replaced rule (swap_of d 1) i p) y.0 y.1 (moved_over-first F d (swap_of d 1) z.0 z.1 k) h)

  settled-one : ((c : Candidate) → F c → F (raised c)) → (rule : Rule) (c : List (List Candidate)) (i r last : ℕ) (p : Paths) → First F c → There p
      → SettledFrom F r last p (settled rule c 1 i r last p)
  unfolding settled
  settled-one up rule c i r last p k h =
      let w = least_of c 0 1 in
      replacing-one rule (penalised c p.rings 1 w last) i r last w p (one-least c 0) (penalised-first F up c p.rings w last k) h

-- ---- the whole sample: the generator steps first
record Stepped (o : List Path) (m : Moves) : Type 0 where
  own : 0 < length m.owns
  seed : (get_or m.owns 0 no_path).«Seed» ≡ rand (get_or o 0 no_path).«Seed»
  init : (get_or m.owns 0 no_path).«SeedInit» ≡ (get_or o 0 no_path).«SeedInit»

step-one : (f : Fix) (h : Halves) (ar : List ℤ) (o : List Path) → 0 < length o → Stepped o (move_turn f h ar 0 (unmoved o))
unfolding moved
step-one f h ar [] k = absurd (omega arith)
step-one f h ar (p ∷ o) k = record { own = k; seed = refl; init = refl }

steps-one : (f : Fix) (h : Halves) (ar : List ℤ) (o : List Path) → f.nStates ≡ 1 → 0 < length o → Stepped o (moves f h ar o)
unfolding moves
steps-one f h ar o one k = subst (λ (n : ℕ). Stepped o (iter (move_turn f h ar) n (unmoved o))) (sym one) (step-one f h ar o k)

-- what a sample makes of the first of the paths p: it took a fair candidate, by the stepped seed
abbrev pub SampledOne : Fix → ℤ → ℕ → ℕ → Paths → Settled → Type 0
SampledOne f ltp r last p z =
    SettledOne (Fair f.offset_Q10 (rand (get_or p.owns 0 no_path).«Seed») ltp) (rand (get_or p.owns 0 no_path).«Seed») (get_or p.owns 0 no_path).«SeedInit» r last p.rings z

tried-one : (rule : Rule) (f : Fix) → Tabled f → f.nStates ≡ 1 → (a : List ℤ) (s : Common) (i r0 r last : ℕ) (m : Moves) (p : Paths) → Stepped p.owns m
    → There p → SampledOne f s.LTP_pred_Q14 r last p (tried rule f a s i r0 r last m p)
unfolding tried
tried-one rule f k one a s i r0 r last m p v h =
    let o = f.offset_Q10 in
    let ltp = s.LTP_pred_Q14 in
    let own = get_or m.owns 0 no_path in
    let c = pairs f a s i r0 m p.lpcs p.rings in
    let y = paths m.owns p.lpcs p.rings in
    let z = settled rule c f.nStates i r last y in
    let t : SettledOne (Fair o own.«Seed» ltp) own.«Seed» own.«SeedInit» r last p.rings z =
    subst (λ (n : ℕ). SettledOne (Fair o own.«Seed» ltp) own.«Seed» own.«SeedInit» r last p.rings (settled rule c n i r last y)) (sym one)
    (settled-one (Fair o own.«Seed» ltp) (raised-fair o own.«Seed» ltp) rule c i r last y (pairs-fair f k one a s i r0 m p.lpcs p.rings)
    (record { own = v.own; some = h.some; five = h.five })) in
    subst (λ (q : ℤ). SettledOne (Fair o q ltp) q (get_or p.owns 0 no_path).«SeedInit» r last p.rings z) v.seed
    (subst (λ (q : ℤ). SettledOne (Fair o own.«Seed» ltp) own.«Seed» q r last p.rings z) v.init t)

-- one sample of a call with one path
pub sample-one : (rule : Rule) (f : Fix) → Tabled f → f.nStates ≡ 1 → (h : Halves) (a ar : List ℤ) (s : Common) (i r0 r last : ℕ) (p : Paths) → There p
    → SampledOne f s.LTP_pred_Q14 r last p (sample rule f h a ar s i r0 r last p)
unfolding sample
sample-one rule f k one h a ar s i r0 r last p t =
    tried-one rule f k one a s i r0 r last (moves f h ar p.owns) p (steps-one f h ar p.owns one t.own) t
