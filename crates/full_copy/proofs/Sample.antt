-- One sample of all paths under two rules of replacement. The LPC words that count at sample i of a subframe are those from i up to 16 + i; once
-- the candidates are there, those from i + 1 on. Assumes nothing.
use Prim.Native.Nat.{ℕ, suc, ◌+◌, ◌-◌, ◌/◌, ◌<◌, ◌≤◌}
use native.Mathlib.Omega.{arith}
use mathlib.Core.Path.{◌≡◌, refl, sym, ap, ◌∙◌}
use mathlib.Core.List.{List, []}
use lib.ListN.{get_or, replicate}
use lib.IntN.{ℤ, pos}
use lib.Dec.{eqb}
use Rattle.fixed.specs.Row.{word}
use Rattle.fixed.proofs.Iters.{iter-same, iter-rel, either-all, either-rel}
use Rattle.shaping.specs.Taps.{tap, tap_count, short_prediction}
use Rattle.path.specs.declared.structs.Path.{Path}
use Rattle.path.specs.declared.structs.Candidate.{Candidate}
use Rattle.path.specs.declared.structs.Fix.{Fix}
use Rattle.path.specs.declared.structs.Halves.{Halves}
use Rattle.path.specs.declared.structs.Common.{Common}
use Rattle.path.specs.declared.structs.Moves.{Moves}
use Rattle.path.specs.declared.structs.Swap.{Swap}
use Rattle.path.specs.Data.{no_path, no_candidate, Paths, paths, candidate_at}
use Rattle.path.specs.Path.{terms_of, pair_of, pair}
use Rattle.path.specs.Taken.{taken}
use Rattle.winner.specs.Winner.{least_of}
use Rattle.winner.proofs.Ties.{least-in}
use Rattle.penalty.specs.Penalty.{penalised}
use Rattle.steps.specs.Among.{Rule, swap_of, copied, replaced, moved_over}
use Rattle.steps.specs.Each.{moves, pair_turn, pairs, take_turn, taken_all}
use Rattle.steps.specs.Settled.{Settled, leaving, replacing, settled}
use Rattle.steps.specs.Sample.{tried, sample}
use Rattle.full_copy.specs.Copy.{Copies}
use Rattle.full_copy.proofs.Windows.{set_both, len-both, Win, win-refl, win-less, win-grow, Wins}

-- paths that are equal but for their LPC words, and those are in W, path by path
pub record PathsRel (n : ℕ) (W : ℕ → List ℤ → List ℤ → Type 0) (p q : Paths) : Type 0 where
  pub owns : p.owns ≡ q.owns
  pub rings : p.rings ≡ q.rings
  pub lpcs : Wins n W p.lpcs q.lpcs

-- one relation for another, path by path
pub paths-map : {n : ℕ} {U W : ℕ → List ℤ → List ℤ → Type 0} {p q : Paths} → ((k : ℕ) → k < n → (s t : List ℤ) → U k s t → W k s t) → PathsRel n U p q
    → PathsRel n W p q
paths-map f w =
    record { owns = w.owns; rings = w.rings; lpcs = record { len = w.lpcs.len; at = λ k h. f k h _ _ (w.lpcs.at k h) } }

-- ---- the candidates: sixteen words are read, or ten
taps-most : (order : ℕ) → tap_count order ≤ 16
taps-most order = either-all (λ (m : ℕ). m ≤ 16) (eqb order 16) 16 10 (λ e. omega arith) (λ e. omega arith)

short-win : (s t a : List ℤ) (i order : ℕ) → Win i (16 + i) s t → short_prediction s (15 + i) a order ≡ short_prediction t (15 + i) a order
unfolding short_prediction
short-win s t a i order r =
    iter-same (tap s (15 + i) a) (tap t (15 + i) a) (tap_count order) (pos (order / 2))
    (λ j h acc. rw (r.at (15 + i - j) (omega (arith, taps-most order)) (omega arith)) refl)

terms-win : (f : Fix) (a : List ℤ) (c : Common) (i r0 : ℕ) (p : Path) (n : ℤ) (s t : List ℤ) (ring : List (List ℤ)) → Win i (16 + i) s t
    → terms_of f a c i r0 p n s ring ≡ terms_of f a c i r0 p n t ring
unfolding terms_of
terms-win f a c i r0 p n s t ring w = rw (short-win s t a i f.predictLPCOrder w) refl

pair-win : (f : Fix) (a : List ℤ) (c : Common) (i r0 : ℕ) (p : Path) (n : ℤ) (s t : List ℤ) (ring : List (List ℤ)) → Win i (16 + i) s t
    → pair f a c i r0 p n s ring ≡ pair f a c i r0 p n t ring
unfolding pair
pair-win f a c i r0 p n s t ring w = ap (pair_of f c.n_LTP_Q14 p.RD_Q10) (terms-win f a c i r0 p n s t ring w)

-- so the candidates are the same
pub pairs-win : (f : Fix) (a : List ℤ) (c : Common) (i r0 : ℕ) (m : Moves) (s t : List (List ℤ)) (rings : List (List (List ℤ)))
    → Wins f.nStates (λ k. Win i (16 + i)) s t → pairs f a c i r0 m s rings ≡ pairs f a c i r0 m t rings
unfolding pairs
pairs-win f a c i r0 m s t rings w =
    iter-same (pair_turn f a c i r0 m s rings) (pair_turn f a c i r0 m t rings) f.nStates (replicate 4 (replicate 2 no_candidate))
    (λ k h d. rw (pair-win f a c i r0 (get_or m.owns k no_path) (word m.n_AR_Q14 k) (get_or s k []) (get_or t k []) (get_or rings k []) (w.at k h)) refl)

-- ---- the replacement: both rules copy the words from i + 1 on
copied-win : (r r' : Rule) → Copies r → Copies r' → (n to by i c : ℕ) (p q : Paths) → by < n → PathsRel n (λ k. Win (suc i) c) p q
    → PathsRel n (λ k. Win (suc i) c) (copied r to by i p) (copied r' to by i q)
unfolding copied
copied-win r r' u u' n to by i c p q bn w =
    record {
      owns = rw w.owns refl;
      rings = rw w.rings refl;
      lpcs =
          record {
            len = len-both p.lpcs q.lpcs to to _ _ w.lpcs.len;
            at = λ k h.
                set_both (Win (suc i) c) [] p.lpcs q.lpcs to k _ _ w.lpcs.len (λ z. win-refl (suc i) c [])
                (λ z. record {
                  len = u.len _ _ i ∙ (w.lpcs.at by bn).len ∙ sym (u'.len _ _ i);
                  at = λ j e f. u.at _ _ i j (omega arith) ∙ (w.lpcs.at by bn).at j e f ∙ sym (u'.at _ _ i j (omega arith));
                })
                (λ z. w.lpcs.at k h);
          };
    }

-- which path is copied is one of the n
by_less : (d : List (List Candidate)) (n : ℕ) → 0 < n → (swap_of d n).by < n
unfolding swap_of
by_less d n h = least-in d 1 n h

replaced-win : (r r' : Rule) → Copies r → Copies r' → (n i c : ℕ) (s : Swap) → s.by < n → (p q : Paths) → PathsRel n (λ k. Win i c) p q
    → PathsRel n (λ k. Win (suc i) c) (replaced r s i p) (replaced r' s i q)
unfolding replaced
replaced-win r r' u u' n i c s b p q w =
    let z : PathsRel n (λ k. Win (suc i) c) p q = paths-map (λ k h s t. win-less (omega arith) (omega arith)) w in
    either-rel (PathsRel n (λ k. Win (suc i) c)) s.yes _ _ _ _ (λ e. copied-win r r' u u' n s.to s.by i c p q b z) (λ e. z)

-- ---- each path takes its word at 16 + i
-- path k, when the paths before path j have taken theirs
abbrev Half : ℕ → ℕ → ℕ → List ℤ → List ℤ → Type 0
Half i j k s t = (Win (suc i) (16 + i) s t) × (k < j → Win (suc i) (suc (16 + i)) s t)

take-win : (d : List (List Candidate)) (n i r j : ℕ) (p q : Paths) → j < n → PathsRel n (Half i j) p q
    → PathsRel n (Half i (suc j)) (take_turn d i r j p) (take_turn d i r j q)
unfolding taken
take-win d n i r j p q jn w =
    record {
      owns = rw w.owns refl;
      rings = rw (w.owns, w.rings) refl;
      lpcs =
          record {
            len = len-both p.lpcs q.lpcs j j _ _ w.lpcs.len;
            at = λ k h.
                let g = win-grow (w.lpcs.at j jn).0 (candidate_at d j 0).xq_Q14 in
                set_both (Half i (suc j) k) [] p.lpcs q.lpcs j k _ _ w.lpcs.len
                (λ y. (win-refl (suc i) (16 + i) [], λ z. win-refl (suc i) (suc (16 + i)) []))
                (λ y. (win-less (omega arith) (omega arith) g, λ z. g))
                (λ ne. ((w.lpcs.at k h).0, λ z. (w.lpcs.at k h).1 (omega arith)));
          };
    }

taken-win : (d : List (List Candidate)) (n i r : ℕ) (p q : Paths) → PathsRel n (λ k. Win (suc i) (16 + i)) p q
    → PathsRel n (λ k. Win (suc i) (16 + suc i)) (taken_all d n i r p) (taken_all d n i r q)
unfolding taken_all
taken-win d n i r p q w =
    paths-map (λ k h s t z. win-less (omega arith) (omega arith) (z.1 h))
    (iter-rel (λ j. PathsRel n (Half i j)) (take_turn d i r) (take_turn d i r) n (λ j h a b. take-win d n i r j a b h) p q
    (paths-map (λ k h s t z. (z, λ l. absurd (omega arith))) w))

-- ---- what a sample leaves: the paths, and four words that are the same
abbrev no_paths : Paths
no_paths = paths [] [] []

-- .. but for the paths
abbrev pub without_paths : Settled → Settled
without_paths s = record { ps = no_paths; Q_Q10 = s.Q_Q10; Xq_Q14 = s.Xq_Q14; Pred_Q15 = s.Pred_Q15; Shape_Q14 = s.Shape_Q14 }

pub record SettledRel (n : ℕ) (W : ℕ → List ℤ → List ℤ → Type 0) (a b : Settled) : Type 0 where
  pub ps : PathsRel n W a.ps b.ps
  pub rest : without_paths a ≡ without_paths b

leaving-win : (d : List (List Candidate)) (n i r last w : ℕ) (p q : Paths) → PathsRel n (λ k. Win (suc i) (16 + i)) p q
    → SettledRel n (λ k. Win (suc i) (16 + suc i)) (leaving d n i r last w p) (leaving d n i r last w q)
unfolding leaving
leaving-win d n i r last w p q z = record { ps = taken-win d n i r p q z; rest = rw z.rings refl }

replacing-win : (r r' : Rule) → Copies r → Copies r' → (d : List (List Candidate)) (n i g last w : ℕ) → 0 < n → (p q : Paths)
    → PathsRel n (λ k. Win i (16 + i)) p q
    → SettledRel n (λ k. Win (suc i) (16 + suc i)) (replacing r d n i g last w p) (replacing r' d n i g last w q)
unfolding replacing
replacing-win r r' u u' d n i g last w n0 p q z =
    leaving-win (moved_over d (swap_of d n)) n i g last w _ _ (replaced-win r r' u u' n i (16 + i) (swap_of d n) (by_less d n n0) p q z)

-- each step with what it reads of the paths as arguments of its own
settled-by : (r : Rule) (c : List (List Candidate)) (n i g last : ℕ) (p : Paths) (rings : List (List (List ℤ))) → p.rings ≡ rings
    → settled r c n i g last p ≡ replacing r (penalised c rings n (least_of c 0 n) last) n i g last (least_of c 0 n) p
unfolding settled
settled-by r c n i g last p rings e =
    ap (λ (z : List (List (List ℤ))). replacing r (penalised c z n (least_of c 0 n) last) n i g last (least_of c 0 n) p) e

settled-win : (r r' : Rule) → Copies r → Copies r' → (c : List (List Candidate)) (n i g last : ℕ) → 0 < n → (p q : Paths)
    → PathsRel n (λ k. Win i (16 + i)) p q
    → SettledRel n (λ k. Win (suc i) (16 + suc i)) (settled r c n i g last p) (settled r' c n i g last q)
settled-win r r' u u' c n i g last n0 p q z =
    rw (settled-by r c n i g last p q.rings z.rings, settled-by r' c n i g last q q.rings refl)
    (replacing-win r r' u u' (penalised c q.rings n (least_of c 0 n) last) n i g last (least_of c 0 n) n0 p q z)

tried-by : (r : Rule) (f : Fix) (a : List ℤ) (c : Common) (i r0 g last : ℕ) (m : Moves) (p : Paths) (d : List (List Candidate)) (rings : List (List (List ℤ)))
    → pairs f a c i r0 m p.lpcs p.rings ≡ d → p.rings ≡ rings
    → tried r f a c i r0 g last m p ≡ settled r d f.nStates i g last (paths m.owns p.lpcs rings)
unfolding tried
tried-by r f a c i r0 g last m p d rings e k =
    ap (λ (z : List (List Candidate)). settled r z f.nStates i g last (paths m.owns p.lpcs p.rings)) e
    ∙ ap (λ (z : List (List (List ℤ))). settled r d f.nStates i g last (paths m.owns p.lpcs z)) k

tried-win : (r r' : Rule) → Copies r → Copies r' → (f : Fix) (a : List ℤ) (c : Common) (i r0 g last : ℕ) (m : Moves) → 0 < f.nStates → (p q : Paths)
    → PathsRel f.nStates (λ k. Win i (16 + i)) p q
    → SettledRel f.nStates (λ k. Win (suc i) (16 + suc i)) (tried r f a c i r0 g last m p) (tried r' f a c i r0 g last m q)
tried-win r r' u u' f a c i r0 g last m n0 p q w =
    let d = pairs f a c i r0 m q.lpcs q.rings in
    let e : pairs f a c i r0 m p.lpcs p.rings ≡ d =
    ap (λ (z : List (List (List ℤ))). pairs f a c i r0 m p.lpcs z) w.rings ∙ pairs-win f a c i r0 m p.lpcs q.lpcs q.rings w.lpcs in
    rw (tried-by r f a c i r0 g last m p d q.rings e w.rings, tried-by r' f a c i r0 g last m q d q.rings refl refl)
    (settled-win r r' u u' d f.nStates i g last n0 (paths m.owns p.lpcs q.rings) (paths m.owns q.lpcs q.rings)
    (record { owns = refl; rings = refl; lpcs = w.lpcs }))

sample-by : (r : Rule) (f : Fix) (h : Halves) (a ar : List ℤ) (c : Common) (i r0 g last : ℕ) (p : Paths) (owns : List Path) → p.owns ≡ owns
    → sample r f h a ar c i r0 g last p ≡ tried r f a c i r0 g last (moves f h ar owns) p
unfolding sample
sample-by r f h a ar c i r0 g last p owns e = ap (λ (z : List Path). tried r f a c i r0 g last (moves f h ar z) p) e

pub sample-win : (r r' : Rule) → Copies r → Copies r' → (f : Fix) (h : Halves) (a ar : List ℤ) (c : Common) (i r0 g last : ℕ) → 0 < f.nStates → (p q : Paths)
    → PathsRel f.nStates (λ k. Win i (16 + i)) p q
    → SettledRel f.nStates (λ k. Win (suc i) (16 + suc i)) (sample r f h a ar c i r0 g last p) (sample r' f h a ar c i r0 g last q)
sample-win r r' u u' f h a ar c i r0 g last n0 p q w =
    rw (sample-by r f h a ar c i r0 g last p q.owns w.owns, sample-by r' f h a ar c i r0 g last q q.owns refl)
    (tried-win r r' u u' f a c i r0 g last (moves f h ar q.owns) n0 p q w)
