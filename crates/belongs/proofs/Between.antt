-- The steps between the samples that hand nothing out keep what holds of a frame in work: LPC words move, a row is rewhitened, a gain changes.
-- Assumes nothing.
use Prim.Native.Nat.{ℕ, ◌<◌, ◌≤◌}
use native.Mathlib.Omega.{arith}
use mathlib.Core.Path.{◌≡◌, refl, sym, ap, ◌∙◌, subst}
use mathlib.Core.Bool.{Bool}
use mathlib.Core.List.{List, []}
use lib.ListN.{get_or, set, length}
use lib.IntN.{ℤ}
use Rattle.fixed.specs.Iter.{iter}
use Rattle.fixed.specs.Row.{word}
use Rattle.fixed.proofs.Iters.{iter-rel, either-all}
use Rattle.fixed.proofs.Each.{each_turn, each_long, each_in}
use Rattle.noise.specs.Output.{pulse_of}
use Rattle.limits.specs.Count.{same_z}
use Rattle.word_steps.specs.Gains.{gain_adj_Q16}
use Rattle.path.specs.declared.structs.Path.{Path}
use Rattle.path.specs.declared.structs.Fix.{Fix}
use Rattle.path.specs.Data.{no_path, Paths, Running, ring_pred, ring_shape}
use Rattle.path.specs.Scaled.{scaled_own, scaled_ring, scaled_path}
use Rattle.steps.specs.Subframe.{move_back}
use Rattle.steps.specs.Scale.{scale_path_turn, scaled_paths, scaled}
use Rattle.steps.specs.Frame.{refilled, Whitened, whitened, regained, whitened_first}
use Rattle.heard.proofs.Ring.{place}
use Rattle.heard.proofs.Between.{scaled-own, Rescaled, path-rescaled, scaled_at}
use Rattle.belongs.proofs.Offsets.{Off}
use Rattle.belongs.proofs.Held.{Ledger, PathIs, Held}

-- ---- a step that keeps each path's seeds and its rings of levels and of words RandState
pub path-by : {o : ℤ} {g u u' j : ℕ} {own exc : ℕ → ℤ} {k : ℕ} {p q : Paths}
    → (get_or q.owns k no_path).«Seed» ≡ (get_or p.owns k no_path).«Seed» → (get_or q.owns k no_path).«SeedInit» ≡ (get_or p.owns k no_path).«SeedInit»
    → Off g (get_or q.owns k no_path).RD_Q10 u' → Rescaled (get_or p.rings k []) (get_or q.rings k [])
    → PathIs o g u j own exc k p → PathIs o g u' j own exc k q
path-by seed init cost r s =
    record {
      five = r.five;
      marks40 = ap (λ (z : List ℤ). length z) r.mark ∙ s.marks40;
      levels40 = ap (λ (z : List ℤ). length z) r.level ∙ s.levels40;
      preds40 = r.pred ∙ s.preds40;
      cost = cost;
      four = s.four;
      init = init ∙ s.init;
      seed = seed ∙ s.seed;
      marks = λ y b c. ap (λ (z : List ℤ). word z (place y)) r.mark ∙ s.marks y b c;
      blank = λ y b c. ap (λ (z : List ℤ). word z (place y)) r.mark ∙ s.blank y b c;
      levels = λ y b c. ap (λ (z : List ℤ). pulse_of (word z (place y))) r.level ∙ s.levels y b c;
      exact = s.exact;
    }

-- the rings as they were
pub same-ring : {a b : List (List ℤ)} → b ≡ a → length a ≡ 5 → Rescaled a b
same-ring {a} e f = subst (Rescaled a) (sym e) (record { five = f; level = refl; mark = refl; pred = refl })

-- of all paths, and nothing is handed out
record Keeps (n : ℕ) (t u : Running) : Type 0 where
  owns4 : length u.core.ps.owns ≡ length t.core.ps.owns
  rings4 : length u.core.ps.rings ≡ length t.core.ps.rings
  seed : (k : ℕ) → k < n → (get_or u.core.ps.owns k no_path).«Seed» ≡ (get_or t.core.ps.owns k no_path).«Seed»
  init : (k : ℕ) → k < n → (get_or u.core.ps.owns k no_path).«SeedInit» ≡ (get_or t.core.ps.owns k no_path).«SeedInit»
  cost : (k : ℕ) → k < n → (get_or u.core.ps.owns k no_path).RD_Q10 ≡ (get_or t.core.ps.owns k no_path).RD_Q10
  ring : (k : ℕ) → k < n → Rescaled (get_or t.core.ps.rings k []) (get_or u.core.ps.rings k [])
  at : u.core.smpl_buf_idx ≡ t.core.smpl_buf_idx
  out : u.pulses ≡ t.pulses

held_by : {o : ℤ} {n len g e ψ : ℕ} {l : Ledger} {t u : Running} → Keeps n t u → Held o n len g e ψ l t → Held o n len g e ψ l u
held_by {g = g} a s =
    record {
      u = s.u;
      j = s.j;
      owns4 = a.owns4 ∙ s.owns4;
      rings4 = a.rings4 ∙ s.rings4;
      room = s.room;
      at = a.at ∙ s.at;
      paths = λ k h.
          path-by (a.seed k h) (a.init k h) (subst (λ (z : ℤ). Off g z (s.u k)) (sym (a.cost k h)) (s.paths k h).cost) (a.ring k h) (s.paths k h);
      living = s.living;
      long = ap (λ (z : List ℤ). length z) a.out ∙ s.long;
      out = λ k h q y b. ap (λ (z : List ℤ). word z y) a.out ∙ s.out k h q y b;
    }

-- ---- the paths stay as they are, but for LPC words
keeps-paths : {o : ℤ} {n len g e ψ : ℕ} {l : Ledger} {t u : Running} → u.core.ps.owns ≡ t.core.ps.owns → u.core.ps.rings ≡ t.core.ps.rings
    → u.core.smpl_buf_idx ≡ t.core.smpl_buf_idx → u.pulses ≡ t.pulses → Held o n len g e ψ l t → Keeps n t u
keeps-paths o r i p s =
    record {
      owns4 = ap (λ (z : List Path). length z) o;
      rings4 = ap (λ (z : List (List (List ℤ))). length z) r;
      seed = λ k h. ap (λ (z : List Path). (get_or z k no_path).«Seed») o;
      init = λ k h. ap (λ (z : List Path). (get_or z k no_path).«SeedInit») o;
      cost = λ k h. ap (λ (z : List Path). (get_or z k no_path).RD_Q10) o;
      ring = λ k h. same-ring (ap (λ (z : List (List (List ℤ))). get_or z k []) r) (s.paths k h).five;
      at = i;
      out = p;
    }

-- LPC words move to the front
pub held_back : {o : ℤ} {n len g e ψ : ℕ} {l : Ledger} (f : Fix) (t : Running) → Held o n len g e ψ l t → Held o n len g e ψ l (move_back f t)
unfolding move_back
held_back f t s = held_by (keeps-paths refl refl refl refl s) s

-- the work row is filled
held-refilled : {o : ℤ} {n len g e ψ : ℕ} {l : Ledger} (f : Fix) (inv : ℤ) (row : List ℤ) (t : Running)
    → Held o n len g e ψ l t → Held o n len g e ψ l (refilled f inv row t)
unfolding refilled
held-refilled f inv row t s = held_by (keeps-paths refl refl refl refl s) s

pub held-white : {o : ℤ} {n len g e ψ : ℕ} {l : Ledger} (w : Bool) (f : Fix) (a : List ℤ) (inv : ℤ) (t : Running) (row : List ℤ)
    → Held o n len g e ψ l t → Held o n len g e ψ l (whitened_first w f a inv t row).run
unfolding whitened_first whitened
held-white {o} {n} {len} {g} {e} {ψ} {l} w f a inv t row s =
    either-all (λ (z : Whitened). Held o n len g e ψ l z.run) w _ _ (λ q. held-refilled f inv _ t s) (λ q. s)

-- ---- the change of gain
scaled-owns : (adj : ℤ) (n : ℕ) (p : Paths) → (scaled_paths adj n p).owns ≡ iter (each_turn no_path (λ k o. scaled_own adj o)) n p.owns
unfolding scaled_paths scaled_path
scaled-owns adj n p =
    iter-rel (λ j (a : Paths) (l : List Path). a.owns ≡ l) (scale_path_turn adj) (each_turn no_path (λ k o. scaled_own adj o)) n
    (λ j q a l e. ap (λ (z : List Path). set z j (scaled_own adj (get_or z j no_path))) e) p p.owns refl

-- the rings of one path
abbrev ring_scaled : ℤ → List (List ℤ) → List (List ℤ)
ring_scaled adj ring = scaled_ring adj ring_shape (scaled_ring adj ring_pred ring)

scaled-rings : (adj : ℤ) (n : ℕ) (p : Paths) → (scaled_paths adj n p).rings ≡ iter (each_turn [] (λ k ring. ring_scaled adj ring)) n p.rings
unfolding scaled_paths scaled_path
scaled-rings adj n p =
    iter-rel (λ j (a : Paths) (l : List (List (List ℤ))). a.rings ≡ l) (scale_path_turn adj) (each_turn [] (λ k ring. ring_scaled adj ring)) n
    (λ j q a l e. ap (λ (z : List (List (List ℤ))). set z j (ring_scaled adj (get_or z j []))) e) p p.rings refl

ring-rescaled : (adj : ℤ) (ring : List (List ℤ)) → length ring ≡ 5 → Rescaled ring (ring_scaled adj ring)
unfolding scaled_path
ring-rescaled adj ring h = path-rescaled adj no_path [] ring h

scaled-ps : (f : Fix) (w : Bool) (adj : ℤ) (t : Running) → (scaled f w adj t).core.ps ≡ scaled_paths adj f.nStates t.core.ps
unfolding scaled
scaled-ps f w adj t = refl

held-scaled : {o : ℤ} {len g e ψ : ℕ} {l : Ledger} (f : Fix) (w : Bool) (adj : ℤ) (t : Running) → f.nStates ≤ 4
    → Held o f.nStates len g e ψ l t → Held o f.nStates len g e ψ l (scaled f w adj t)
held-scaled f w adj t n4 s =
    let p = t.core.ps in
    let b = scaled_at f w adj t in
    let owns = ap (λ (z : Paths). z.owns) (scaled-ps f w adj t) ∙ scaled-owns adj f.nStates p in
    let rings = ap (λ (z : Paths). z.rings) (scaled-ps f w adj t) ∙ scaled-rings adj f.nStates p in
    let own : (k : ℕ) → k < f.nStates → get_or (scaled f w adj t).core.ps.owns k no_path ≡ scaled_own adj (get_or p.owns k no_path) =
    λ k h. ap (λ (z : List Path). get_or z k no_path) owns ∙ each_in no_path (λ k o. scaled_own adj o) f.nStates p.owns k h (omega (arith, s.owns4)) in
    held_by
    (record {
      owns4 = ap (λ (z : List Path). length z) owns ∙ each_long no_path (λ k o. scaled_own adj o) f.nStates p.owns;
      rings4 = ap (λ (z : List (List (List ℤ))). length z) rings ∙ each_long [] (λ k ring. ring_scaled adj ring) f.nStates p.rings;
      seed = λ k h. ap (λ (z : Path). z.«Seed») (own k h) ∙ (scaled-own adj (get_or p.owns k no_path)).0;
      init = λ k h. ap (λ (z : Path). z.«SeedInit») (own k h) ∙ (scaled-own adj (get_or p.owns k no_path)).1.0;
      cost = λ k h. ap (λ (z : Path). z.RD_Q10) (own k h) ∙ (scaled-own adj (get_or p.owns k no_path)).1.1;
      ring = λ k h.
          subst (Rescaled (get_or p.rings k []))
          (sym
          (ap (λ (z : List (List (List ℤ))). get_or z k []) rings
          ∙ each_in [] (λ k ring. ring_scaled adj ring) f.nStates p.rings k h (omega (arith, s.rings4))))
          (ring-rescaled adj (get_or p.rings k []) (s.paths k h).five);
      at = b.0;
      out = b.1;
    })
    s

pub held-regained : {o : ℤ} {len g e ψ : ℕ} {l : Ledger} (f : Fix) (w : Bool) (prev : ℤ) (t : Running) → f.nStates ≤ 4
    → Held o f.nStates len g e ψ l t → Held o f.nStates len g e ψ l (regained f w prev t)
unfolding regained
held-regained {o} {len} {g} {e} {ψ} {l} f w prev t n4 s =
    let adj = gain_adj_Q16 prev f.Gain_Q16 in
    either-all (Held o f.nStates len g e ψ l) (same_z f.Gain_Q16 prev) t (scaled f w adj t) (λ q. s) (λ q. held-scaled f w adj t n4 s)
