-- One path between its subframes: the flush, the rewhitening, the change of gain and the move of LPC words keep what a sample needs of it.
-- Assumes nothing.
use Prim.Native.Nat.{ℕ, suc, ◌+◌, ◌-◌, ◌*◌, ◌%◌, ◌<◌, ◌≤◌}
use native.Mathlib.Omega.{arith}
use mathlib.Core.Path.{◌≡◌, refl, sym, ap, ◌∙◌, subst}
use mathlib.Core.Bool.{Bool, true}
use mathlib.Core.List.{List, [], ◌∷◌}
use lib.ListN.{get_or, set, length, length-set}
use lib.Seq.{get_or-set_same, set-get_or}
use lib.IntN.{ℤ, pos}
use lib.Signed.{lt_z}
use Rattle.fixed.specs.Iter.{iter}
use Rattle.fixed.specs.Row.{word}
use Rattle.fixed.proofs.Iters.{iter-keeps, either-all, either-alike}
use Rattle.noise.specs.Output.{pulse_of}
use Rattle.limits.specs.Count.{same_z}
use Rattle.products.specs.Product.{smulww}
use Rattle.word_steps.specs.Gains.{gain_adj_Q16}
use Rattle.path.specs.declared.structs.Path.{Path}
use Rattle.path.specs.declared.structs.Fix.{Fix}
use Rattle.path.specs.Data.{no_path, Paths, Running, ring_rand_state, ring_q, ring_pred}
use Rattle.path.specs.Taken.{Whole, path_at}
use Rattle.path.specs.Scaled.{scale_turn, scaled_words, scaled_own, scaled_path}
use Rattle.steps.specs.Subframe.{move_back}
use Rattle.steps.specs.Scale.{scale_path_turn, scaled_paths, scaled}
use Rattle.steps.specs.Flush.{best_of, fit_middle, Outs, flush_turn, flushed, other_path, others_raised}
use Rattle.steps.specs.Frame.{outs_of, flushed_run, middle_by, refilled, Whitened, whitened, regained, flushed_first, whitened_first, before}
use Rattle.counts.proofs.Rows.{Below, below-grow}
use Rattle.counts.proofs.Flush.{put-at, middle}
use Rattle.counts.proofs.Before.{Stands}
use Rattle.heard.specs.Inside.{seed_in}
use Rattle.heard.proofs.Ring.{place-flush}
use Rattle.heard.proofs.One.{level_row, pred_row, There}
use Rattle.heard.proofs.Kept.{Rounds, Kept}

-- ---- a step that keeps of the first path all that a sample needs
record Keeps (t u : Running) : Type 0 where
  there : There u.core.ps
  row : level_row u.core.ps.rings ≡ level_row t.core.ps.rings
  wide : length (pred_row u.core.ps.rings) ≡ length (pred_row t.core.ps.rings)
  at : u.core.smpl_buf_idx ≡ t.core.smpl_buf_idx
  seed : seed_in u ≡ seed_in t
  init : (get_or u.core.ps.owns 0 no_path).«SeedInit» ≡ (get_or t.core.ps.owns 0 no_path).«SeedInit»

module _ {Q : ℕ → ℤ} {s0 : ℤ} {ps : List ℤ} {g b : ℕ} {t u : Running} (s : Kept Q s0 ps g b t) (k : Keeps t u) where
  -- .. with the pulses that are out then
  kept_by : {a : ℕ} → Below a u.pulses ps → Kept Q s0 ps g a u
  kept_by o =
      record {
        there = k.there;
        long = rw k.row s.long;
        wide = k.wide ∙ s.wide;
        at = k.at ∙ s.at;
        row = λ h p q. rw k.row (s.row h p q);
        seed = k.seed ∙ s.seed;
        init = k.init ∙ s.init;
        out = o;
      }

  -- .. and the same pulses
  kept_same : u.pulses ≡ t.pulses → Kept Q s0 ps g b u
  kept_same e = kept_by (subst (λ (z : List ℤ). Below b z ps) (sym e) s.out)

-- the paths are the same but for LPC words
keeps-paths : {t u : Running} → There t.core.ps → u.core.ps.owns ≡ t.core.ps.owns → u.core.ps.rings ≡ t.core.ps.rings
    → u.core.smpl_buf_idx ≡ t.core.smpl_buf_idx → Keeps t u
keeps-paths h o e r =
    record {
      there = record { own = rw o h.own; some = rw e h.some; five = rw e h.five };
      row = rw e refl;
      wide = rw e refl;
      at = r;
      seed = rw o refl;
      init = rw o refl;
    }

-- ---- after the samples LPC words move
pub back-kept : {Q : ℕ → ℤ} {s0 : ℤ} {ps : List ℤ} {g b : ℕ} (f : Fix) (t : Running) → Kept Q s0 ps g b t → Kept Q s0 ps g b (move_back f t)
unfolding move_back
back-kept f t s = kept_same s (keeps-paths s.there refl refl refl) refl

-- ---- the change of gain: seeds stay, and so does the ring of levels
pub scaled-own : (adj : ℤ) (p : Path)
    → ((scaled_own adj p).«Seed» ≡ p.«Seed») × (((scaled_own adj p).«SeedInit» ≡ p.«SeedInit») × ((scaled_own adj p).RD_Q10 ≡ p.RD_Q10))
unfolding scaled_own
scaled-own adj p = (refl, (refl, refl))

scaled-long : (adj : ℤ) (a m : ℕ) (row : List ℤ) → length (scaled_words adj a m row) ≡ length row
unfolding scaled_words
scaled-long adj a m row =
    iter-keeps (λ j (l : List ℤ). length l ≡ length row) (scale_turn adj a) m (λ j h l e. length-set l (a + j) (smulww adj (word l (a + j))) ∙ e) row refl

-- .. and the ring of words RandState
pub record Rescaled (old new : List (List ℤ)) : Type 0 where
  pub five : length new ≡ 5
  pub level : get_or new ring_q [] ≡ get_or old ring_q []
  pub mark : get_or new ring_rand_state [] ≡ get_or old ring_rand_state []
  pub pred : length (get_or new ring_pred []) ≡ length (get_or old ring_pred [])

pub path-rescaled : (adj : ℤ) (o : Path) (lpc : List ℤ) (ring : List (List ℤ)) → length ring ≡ 5
    → Rescaled ring (scaled_path adj (record { own = o; lpc = lpc; ring = ring })).ring
unfolding scaled_path
path-rescaled adj o lpc [] h = absurd (omega (arith, h))
path-rescaled adj o lpc (a ∷ []) h = absurd (omega (arith, h))
path-rescaled adj o lpc (a ∷ b ∷ []) h = absurd (omega (arith, h))
path-rescaled adj o lpc (a ∷ b ∷ d ∷ []) h = absurd (omega (arith, h))
path-rescaled adj o lpc (a ∷ b ∷ d ∷ e ∷ []) h = absurd (omega (arith, h))
path-rescaled adj o lpc (a ∷ b ∷ d ∷ e ∷ g ∷ l) h = record { five = h; level = refl; mark = refl; pred = scaled-long adj 0 40 e }

path-own : (adj : ℤ) (w : Whole) → (scaled_path adj w).own ≡ scaled_own adj w.own
unfolding scaled_path
path-own adj w = refl

scaled-paths : (f : Fix) (w : Bool) (adj : ℤ) (t : Running) → f.nStates ≡ 1 → (scaled f w adj t).core.ps ≡ scale_path_turn adj 0 t.core.ps
unfolding scaled scaled_paths
scaled-paths f w adj t one = ap (λ (n : ℕ). iter (scale_path_turn adj) n t.core.ps) one

pub scaled_at : (f : Fix) (w : Bool) (adj : ℤ) (t : Running)
    → ((scaled f w adj t).core.smpl_buf_idx ≡ t.core.smpl_buf_idx) × ((scaled f w adj t).pulses ≡ t.pulses)
unfolding scaled
scaled_at f w adj t = (refl, refl)

scaled-keeps : (f : Fix) (w : Bool) (adj : ℤ) (t : Running) → f.nStates ≡ 1 → There t.core.ps → Keeps t (scaled f w adj t)
scaled-keeps f w adj t one h =
    let p = t.core.ps in
    let e = scaled-paths f w adj t one in
    let old = path_at p 0 in
    let new = scaled_path adj old in
    let a : get_or (scaled f w adj t).core.ps.rings 0 [] ≡ new.ring =
    ap (λ (z : Paths). get_or z.rings 0 []) e ∙ get_or-set_same p.rings 0 new.ring [] h.some in
    let b : get_or (scaled f w adj t).core.ps.owns 0 no_path ≡ scaled_own adj old.own =
    ap (λ (z : Paths). get_or z.owns 0 no_path) e ∙ get_or-set_same p.owns 0 new.own no_path h.own ∙ path-own adj old in
    let r : Rescaled old.ring new.ring = path-rescaled adj old.own old.lpc old.ring h.five in
    record {
      there =
          record {
            own = subst (λ (z : Paths). 0 < length z.owns) (sym e) (rw length-set h.own);
            some = subst (λ (z : Paths). 0 < length z.rings) (sym e) (rw length-set h.some);
            five = ap (λ (z : List (List ℤ)). length z) a ∙ r.five;
          };
      row = ap (λ (z : List (List ℤ)). get_or z ring_q []) a ∙ r.level;
      wide = ap (λ (z : List (List ℤ)). length (get_or z ring_pred [])) a ∙ r.pred;
      at = (scaled_at f w adj t).0;
      seed = ap (λ (z : Path). z.«Seed») b ∙ (scaled-own adj old.own).0;
      init = ap (λ (z : Path). z.«SeedInit») b ∙ (scaled-own adj old.own).1.0;
    }

regained-kept : {Q : ℕ → ℤ} {s0 : ℤ} {ps : List ℤ} {g b : ℕ} (f : Fix) (w : Bool) (prev : ℤ) (t : Running) → f.nStates ≡ 1
    → Kept Q s0 ps g b t → Kept Q s0 ps g b (regained f w prev t)
unfolding regained
regained-kept {Q} {s0} {ps} {g} {b} f w prev t one s =
    let adj = gain_adj_Q16 prev f.Gain_Q16 in
    either-all (Kept Q s0 ps g b) (same_z f.Gain_Q16 prev) t (scaled f w adj t) (λ e. s)
    (λ e. kept_same s (scaled-keeps f w adj t one s.there) (scaled_at f w adj t).1)

-- ---- the rewhitening
refilled-kept : {Q : ℕ → ℤ} {s0 : ℤ} {ps : List ℤ} {g b : ℕ} (f : Fix) (inv : ℤ) (row : List ℤ) (t : Running)
    → Kept Q s0 ps g b t → Kept Q s0 ps g b (refilled f inv row t)
unfolding refilled
refilled-kept f inv row t s = kept_same s (keeps-paths s.there refl refl refl) refl

whitened-kept : {Q : ℕ → ℤ} {s0 : ℤ} {ps : List ℤ} {g b : ℕ} (w : Bool) (f : Fix) (a : List ℤ) (inv : ℤ) (t : Running) (row : List ℤ)
    → Kept Q s0 ps g b t → Kept Q s0 ps g b (whitened_first w f a inv t row).run
unfolding whitened_first whitened
whitened-kept {Q} {s0} {ps} {g} {b} w f a inv t row s =
    either-all (λ (z : Whitened). Kept Q s0 ps g b z.run) w _ _ (λ e. refilled-kept f inv _ t s) (λ e. s)

-- ---- the flush
-- of one path the first is the best
pub best-one : (o : List Path) (n : ℕ) → n ≡ 1 → best_of o n ≡ 0
unfolding best_of
best-one o n e = rw e (either-alike (lt_z (get_or o 0 no_path).RD_Q10 (get_or o 0 no_path).RD_Q10) 0)

-- the places of the last d pulses
in_frame : (g d i m : ℕ) → d ≤ g → i < d → g ≤ m → (g - d + i < m) × (g - d + i < g)
in_frame g d i m h k l = (omega arith, omega arith)

pub near : (g d i : ℕ) → d ≤ g → d ≤ 40 → g ≤ g - d + i + 40
near g d i h k = omega arith

-- a row that is the same below b as another, and takes its word there
below-fill : {b : ℕ} {s t : List ℤ} → Below b s t → (v : ℤ) → v ≡ word t b → Below (suc b) (set s b v) t
below-fill {b} {s} {t} r v e =
    subst (λ (z : List ℤ). Below (suc b) (set s b v) z) (ap (set t b) e ∙ set-get_or t b (pos 0)) (below-grow r v)

-- the last d pulses of the first path go out
pub flush-kept : {Q : ℕ → ℤ} {s0 : ℤ} {ps : List ℤ} (m : ℕ) → Rounds Q ps m → (l d : ℕ) (fit : ℤ → ℤ) (g : ℕ) (t : Running)
    → d ≤ g → d ≤ 40 → g ≤ m → Kept Q s0 ps g (g - d) t → Below g (flushed_run l d fit g 0 t).pulses ps
unfolding flushed_run flushed
flush-kept {Q} {s0} {ps} m is l d fit g t dg d40 gm s =
    subst (λ (z : ℕ). Below z (iter turn d (outs_of t)).pulses ps) (all g d dg)
    (iter-keeps (λ i (o : Outs). Below (g - d + i) o.pulses ps) turn d step (outs_of t)
    (subst (λ (z : ℕ). Below z t.pulses ps) (plus0 (g - d)) s.out))
  where
    ring : List (List ℤ)
    ring = get_or t.core.ps.rings 0 []

    turn : ℕ → Outs → Outs
    turn = flush_turn (4 * l) ring fit d g t.core.smpl_buf_idx

    all : (g d : ℕ) → d ≤ g → g - d + d ≡ g
    all g d h = omega arith

    plus0 : (a : ℕ) → a ≡ a + 0
    plus0 a = omega arith

    more : (a i : ℕ) → suc (a + i) ≡ a + suc i
    more a i = omega arith

    level : (i : ℕ) → i < d → word (get_or ring ring_q []) ((t.core.smpl_buf_idx + d - 1 - i) % 40) ≡ Q (g - d + i)
    level i h =
        ap (λ (p : ℕ). word (get_or ring ring_q []) ((p + d - 1 - i) % 40)) s.at
        ∙ ap (λ (p : ℕ). word (get_or ring ring_q []) p) (place-flush g d i dg d40 h)
        ∙ s.row (g - d + i) (in_frame g d i m dg h gm).1 (near g d i dg d40)

    step : (i : ℕ) → i < d → (o : Outs) → Below (g - d + i) o.pulses ps → Below (g - d + suc i) (turn i o).pulses ps
    step i h o r =
        let last = (t.core.smpl_buf_idx + d - 1 - i) % 40 in
        rw (put-at (4 * l) ring fit last (g - d + i) o).out
        (subst (λ (z : ℕ). Below z (set o.pulses (g - d + i) (pulse_of (word (get_or ring ring_q []) last))) ps) (more (g - d) i)
        (below-fill r (pulse_of (word (get_or ring ring_q []) last)) (ap pulse_of (level i h) ∙ is (g - d + i) (in_frame g d i m dg h gm).0)))

-- in the middle: no other path is there to be raised
raised-0 : (o : List Path) → (get_or (others_raised 0 1 o) 0 no_path ≡ get_or o 0 no_path) × (length (others_raised 0 1 o) ≡ length o)
unfolding others_raised other_path
raised-0 [] = (refl, refl)
raised-0 (p ∷ o) = (refl, refl)

record MiddleOne (t u : Running) : Type 0 where
  owns : u.core.ps.owns ≡ others_raised 0 1 t.core.ps.owns
  rings : u.core.ps.rings ≡ t.core.ps.rings
  at : u.core.smpl_buf_idx ≡ t.core.smpl_buf_idx

middle-one : (n l d : ℕ) (gain : ℤ) (t : Running) → n ≡ 1 → MiddleOne t (middle_by n l d gain t)
unfolding middle_by
middle-one n l d gain t e =
    let o = t.core.ps.owns in
    record {
      owns = ap (λ (w : ℕ). others_raised w n o) (best-one o n e) ∙ ap (λ (z : ℕ). others_raised 0 z o) e;
      rings = refl;
      at = refl;
    }

middle-keeps : (n l d : ℕ) (gain : ℤ) (t : Running) → n ≡ 1 → There t.core.ps → Keeps t (middle_by n l d gain t)
middle-keeps n l d gain t one h =
    let p = middle-one n l d gain t one in
    let r = raised-0 t.core.ps.owns in
    let e : get_or (middle_by n l d gain t).core.ps.owns 0 no_path ≡ get_or t.core.ps.owns 0 no_path =
    ap (λ (z : List Path). get_or z 0 no_path) p.owns ∙ r.0 in
    record {
      there =
          record {
            own = subst (λ (z : List Path). 0 < length z) (sym p.owns) (subst (λ (z : ℕ). 0 < z) (sym r.1) h.own);
            some = rw p.rings h.some;
            five = ap (λ (z : List (List (List ℤ))). length (get_or z 0 [])) p.rings ∙ h.five;
          };
      row = ap level_row p.rings;
      wide = ap (λ (z : List (List (List ℤ))). length (pred_row z)) p.rings;
      at = p.at;
      seed = ap (λ (z : Path). z.«Seed») e;
      init = ap (λ (z : Path). z.«SeedInit») e;
    }

middle-out : (n l d : ℕ) (gain : ℤ) (t : Running) → n ≡ 1 → (middle_by n l d gain t).pulses ≡ (flushed_run l d (fit_middle gain) (2 * l) 0 t).pulses
middle-out n l d gain t e =
    ap (λ (o : Outs). o.pulses) (middle n l d gain t).rows
    ∙ ap (λ (w : ℕ). (flushed_run l d (fit_middle gain) (2 * l) w t).pulses) (best-one t.core.ps.owns n e)

middle-kept : {Q : ℕ → ℤ} {s0 : ℤ} {ps : List ℤ} (m : ℕ) → Rounds Q ps m → (n l d : ℕ) (gain : ℤ) (t : Running) → n ≡ 1
    → d ≤ 2 * l → d ≤ 40 → 2 * l ≤ m → Kept Q s0 ps (2 * l) (2 * l - d) t → Kept Q s0 ps (2 * l) (2 * l) (middle_by n l d gain t)
middle-kept {ps = ps} m is n l d gain t one dl d40 lm s =
    kept_by s (middle-keeps n l d gain t one s.there)
    (subst (λ (z : List ℤ). Below (2 * l) z ps) (sym (middle-out n l d gain t one)) (flush-kept m is l d (fit_middle gain) (2 * l) t dl d40 lm s))

-- ---- all that comes before the samples
-- a flush in the middle comes when two subframes of the m samples are done, and its delay is no longer than the ring
pub record Midway (again : Bool) (f : Fix) (m g : ℕ) : Type 0 where
  pub few : f.decisionDelay ≤ 40
  pub two : again ≡ true → g ≡ 2 * f.subfr_length
  pub within : again ≡ true → 2 * f.subfr_length ≤ m

flushed-kept : {Q : ℕ → ℤ} {s0 : ℤ} {ps : List ℤ} (m : ℕ) → Rounds Q ps m → (again rewhite : Bool) (f : Fix) (gain1 : ℤ) (t : Running) → f.nStates ≡ 1
    → {g b0 b1 : ℕ} → Stands again rewhite f b0 b1 → Midway again f m g → Kept Q s0 ps g b0 t → Kept Q s0 ps g b1 (flushed_first again f gain1 t)
unfolding flushed_first
flushed-kept {Q} {s0} {ps} m is again rewhite f gain1 t one {g} {b0} {b1} z y s =
    either-all (Kept Q s0 ps g b1) again flushed t
    (λ e.
    let s1 = subst (λ (h : ℕ). Kept Q s0 ps h b0 t) (y.two e) s in
    let s2 = subst (λ (h : ℕ). Kept Q s0 ps (2 * l) h t) (z.flush0 e) s1 in
    let r = middle-kept m is f.nStates l f.decisionDelay gain1 t one z.short y.few (y.within e) s2 in
    let r1 = subst (λ (h : ℕ). Kept Q s0 ps (2 * l) h flushed) (sym (z.flush1 e)) r in
    subst (λ (h : ℕ). Kept Q s0 ps h b1 flushed) (sym (y.two e)) r1)
    (λ e. subst (λ (h : ℕ). Kept Q s0 ps g h t) (z.stays e) s)
  where
    l : ℕ
    l = f.subfr_length

    flushed : Running
    flushed = middle_by f.nStates f.subfr_length f.decisionDelay gain1 t

-- flush, rewhitening and change of gain, one after the other
pub before-kept : {Q : ℕ → ℤ} {s0 : ℤ} {ps : List ℤ} (m : ℕ) → Rounds Q ps m
    → (again rewhite : Bool) (f : Fix) (a : List ℤ) (gain1 inv prev : ℤ) (t : Running) (row : List ℤ) → f.nStates ≡ 1
    → {g b0 b1 : ℕ} → Stands again rewhite f b0 b1 → Midway again f m g → Kept Q s0 ps g b0 t
    → Kept Q s0 ps g b1 (before again rewhite f a gain1 inv prev t row).run
unfolding before
before-kept m is again rewhite f a gain1 inv prev t row one z y s =
    regained-kept f rewhite prev _ one (whitened-kept rewhite f a inv _ row (flushed-kept m is again rewhite f gain1 t one z y s))
