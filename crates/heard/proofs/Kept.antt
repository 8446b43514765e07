-- One path through the samples of a subframe: its ring holds the levels of the last 40 samples, its seed follows from them, and the pulses that are out
-- are their roundings. Assumes nothing.
use Prim.Native.Nat.{ℕ, suc, ◌+◌, ◌-◌, ◌%◌, ◌<◌, ◌≤◌}
use native.Mathlib.Omega.{arith}
use mathlib.Core.Path.{◌≡◌, refl, sym, ap, ◌∙◌, subst}
use mathlib.Core.Bool.{Bool, true, false}
use mathlib.Core.List.{List}
use lib.ListN.{get_or, set, length, length-set}
use lib.Seq.{set-get_or}
use lib.Dec.{leb}
use borrow.Author.Tests.{leb-true}
use lib.IntN.{ℤ, pos, ◌+ℤ◌}
use Rattle.fixed.specs.Iter.{iter, either}
use Rattle.fixed.specs.Row.{word}
use Rattle.fixed.specs.Wrap.{wrap32}
use Rattle.fixed.specs.Shift.{shl32}
use Rattle.seeds.specs.Generator.{rand}
use Rattle.residuals.specs.Residual.{signed_excitation, seed_with}
use Rattle.noise.specs.Output.{pulse_of}
use Rattle.path.specs.declared.structs.Candidate.{Candidate}
use Rattle.path.specs.declared.structs.Fix.{Fix}
use Rattle.path.specs.Data.{no_path, Paths, Running, Rows, ring_pred, ring_at}
use Rattle.places.specs.Places.{down, delayed}
use Rattle.steps.specs.Among.{Rule}
use Rattle.steps.specs.Leaving.{leaves, emit}
use Rattle.steps.specs.Shared.{common}
use Rattle.steps.specs.Turn.{took_from, took, turn}
use Rattle.counts.proofs.Rows.{Below}
use Rattle.counts.proofs.Subframe.{bound, turn-wrote, emit-out}
use Rattle.heard.specs.Inside.{seed_in, level_in}
use Rattle.heard.proofs.Ring.{place, ring_of, ring-next, down-ring, word-written, Holds, holds-next, holds-back}
use Rattle.heard.proofs.Candidates.{Level, Tabled}
use Rattle.heard.proofs.One.{level_row, pred_row, There, SampledOne, sample-one}

-- ---- what is kept
-- the seed before sample g, from the seed s0 before sample 0 and the levels Q
pub seeds : (ℕ → ℤ) → ℤ → ℕ → ℤ
seeds Q s0 g = iter (λ h s. seed_with (rand s) (Q h)) g s0

-- one sample more: the generator steps, and the pulse of the level is added
pub seeds-next : (Q : ℕ → ℤ) (s0 : ℤ) (g : ℕ) → seeds Q s0 (suc g) ≡ seed_with (rand (seeds Q s0 g)) (Q g)
unfolding seeds
seeds-next Q s0 g = refl

-- before the first sample
pub seeds-0 : (Q : ℕ → ℤ) (s0 : ℤ) → seeds Q s0 0 ≡ s0
unfolding seeds
seeds-0 Q s0 = refl

-- the words of ps below m are the pulses of the levels Q
abbrev pub Rounds : (ℕ → ℤ) → List ℤ → ℕ → Type 0
Rounds Q ps m = (h : ℕ) → h < m → pulse_of (Q h) ≡ word ps h

-- after g samples: the ring holds the last 40 levels, the seed is theirs, and the pulses below b are out
pub record Kept (Q : ℕ → ℤ) (s0 : ℤ) (ps : List ℤ) (g b : ℕ) (t : Running) : Type 0 where
  pub there : There t.core.ps
  pub long : length (level_row t.core.ps.rings) ≡ 40
  pub wide : length (pred_row t.core.ps.rings) ≡ 40
  pub at : t.core.smpl_buf_idx ≡ ring_of g
  pub row : Holds Q g (level_row t.core.ps.rings)
  pub seed : seed_in t ≡ seeds Q s0 g
  pub init : (get_or t.core.ps.owns 0 no_path).«SeedInit» ≡ s0
  pub out : Below b t.pulses ps

-- ---- one sample
-- the level that was taken, and that exc_Q14 and its prediction stand in the ring Pred_Q15 after the sample
pub record Sampled (f : Fix) (ltp : ℤ) (t u : Running) : Type 0 where
  pub level : Level f.offset_Q10 (level_in u)
  pub pred : ring_at u.core.ps.rings 0 ring_pred u.core.smpl_buf_idx ≡ shl32 (wrap32 (signed_excitation (rand (seed_in t)) (level_in u) +ℤ ltp)) 1

-- what sample g writes into the rings, with candidate c
record Words (g : ℕ) (c : Candidate) (t u : Running) : Type 0 where
  at : u.core.smpl_buf_idx ≡ place g
  row : level_row u.core.ps.rings ≡ set (level_row t.core.ps.rings) (place g) c.Q_Q10
  pred : pred_row u.core.ps.rings ≡ set (pred_row t.core.ps.rings) (place g) (shl32 c.LPC_exc_Q14 1)

words-level : {g : ℕ} {c : Candidate} {t u : Running} → Words g c t u → length (level_row t.core.ps.rings) ≡ 40 → level_in u ≡ c.Q_Q10
words-level {g} {c} {t} {u} w l =
    ap (λ (z : ℕ). word (level_row u.core.ps.rings) z) w.at
    ∙ ap (λ (z : List ℤ). word z (place g)) w.row
    ∙ word-written (level_row t.core.ps.rings) g c.Q_Q10 l

words-pred : {g : ℕ} {c : Candidate} {t u : Running} → Words g c t u → length (pred_row t.core.ps.rings) ≡ 40
    → ring_at u.core.ps.rings 0 ring_pred u.core.smpl_buf_idx ≡ shl32 c.LPC_exc_Q14 1
words-pred {g} {c} {t} {u} w l =
    ap (λ (z : ℕ). word (pred_row u.core.ps.rings) z) w.at
    ∙ ap (λ (z : List ℤ). word z (place g)) w.pred
    ∙ word-written (pred_row t.core.ps.rings) g (shl32 c.LPC_exc_Q14 1) l

-- ---- the pulses that leave
-- a word that stands there already
emit-own : (now : Bool) (t : List ℤ) (p : ℕ) (v : ℤ) → (now ≡ true → v ≡ word t p) → emit now t p v ≡ t
emit-own true t p v e = ap (set t p) (e refl) ∙ set-get_or t p (pos 0)
emit-own false t p v e = refl

-- sample i of a subframe: one word more is that of t
emit-fill : (first : Bool) (base d i : ℕ) {s t : List ℤ} (v : ℤ) → (first ≡ false → d ≤ base) → Below (bound first base d i) s t
    → (either first (leb d i) true ≡ true → v ≡ word t (base + i - d))
    → Below (bound first base d (suc i)) (emit (either first (leb d i) true) s (base + i - d) v) t
emit-fill first base d i {s} {t} v k r e =
    let now = either first (leb d i) true in
    subst (Below (bound first base d (suc i)) (emit now s (base + i - d) v)) (emit-own now t (base + i - d) v e) (emit-out first base d i v k r)

-- a sample leaves only when d are done
late : (first : Bool) (base d i : ℕ) → (first ≡ false → d ≤ base) → either first (leb d i) true ≡ true → d ≤ base + i
late true base d i k e = omega (arith, leb-true d i e)
late false base d i k e = omega (arith, k refl)

-- ---- a sample keeps it all
module _ (rule : Rule) (f : Fix) (v : Rows) (x : List ℤ) (k : Tabled f) (one : f.nStates ≡ 1) where
  took_one : (i : ℕ) (t : Running) → There t.core.ps
      → SampledOne f (common f v x i t).LTP_pred_Q14 (down t.core.smpl_buf_idx) (delayed f (down t.core.smpl_buf_idx)) t.core.ps (took rule f v x i t)
  unfolding took took_from
  took_one i t h = sample-one rule f k one v.half v.a v.ar _ i _ _ _ t.core.ps h

  turn-words : {Q : ℕ → ℤ} {s0 : ℤ} {ps : List ℤ} {g b : ℕ} (i : ℕ) (t : Running) (s : Kept Q s0 ps g b t)
      → Words g (took_one i t s.there).took.c t (turn rule f v x i t)
  turn-words {g = g} i t s =
      let o = (took_one i t s.there).took in
      let w = turn-wrote rule f v x i t in
      let r : down t.core.smpl_buf_idx ≡ place g = ap down s.at ∙ down-ring g in
      record {
        at = w.at ∙ r;
        row = ap (λ (z : Paths). level_row z.rings) w.ps ∙ o.level ∙ ap (λ (p : ℕ). set (level_row t.core.ps.rings) p o.c.Q_Q10) r;
        pred = ap (λ (z : Paths). pred_row z.rings) w.ps ∙ o.pred ∙ ap (λ (p : ℕ). set (pred_row t.core.ps.rings) p (shl32 o.c.LPC_exc_Q14 1)) r;
      }

  -- what a sample does, with the level that it took
  pub turn-sampled : {Q : ℕ → ℤ} {s0 : ℤ} {ps : List ℤ} {g b : ℕ} (i : ℕ) (t : Running) → Kept Q s0 ps g b t
      → Sampled f (common f v x i t).LTP_pred_Q14 t (turn rule f v x i t)
  turn-sampled i t s =
      let o = (took_one i t s.there).took in
      let w = turn-words i t s in
      let q : level_in (turn rule f v x i t) ≡ o.c.Q_Q10 = words-level w s.long in
      record { level = rw q o.fair.level; pred = rw q (words-pred w s.wide ∙ ap (λ (z : ℤ). shl32 z 1) o.fair.exc) }

  -- what is kept stays so; Q is what the ring holds after the sample
  pub turn-kept : {Q : ℕ → ℤ} {s0 : ℤ} {ps : List ℤ} (m : ℕ) → Rounds Q ps m
      → 1 ≤ f.decisionDelay → f.decisionDelay ≤ 40 → (f.first ≡ false → f.decisionDelay ≤ f.base) → (i : ℕ) (t : Running) → f.base + i < m
      → level_in (turn rule f v x i t) ≡ Q (f.base + i)
      → Kept Q s0 ps (f.base + i) (bound f.first f.base f.decisionDelay i) t
      → Kept Q s0 ps (f.base + suc i) (bound f.first f.base f.decisionDelay (suc i)) (turn rule f v x i t)
  unfolding leaves
  turn-kept {Q} {s0} {ps} m is d1 d40 held i t lt chosen s =
      let g = f.base + i in
      let d = f.decisionDelay in
      let old = level_row t.core.ps.rings in
      let a = took_one i t s.there in
      let o = a.took in
      let w = turn-wrote rule f v x i t in
      let y = turn-words i t s in
      let n : f.base + suc i ≡ suc g = omega arith in
      let level : o.c.Q_Q10 ≡ Q g = sym (words-level y s.long) ∙ chosen in
      rw n
      (record {
        there = subst There (sym w.ps) o.there;
        long = ap (λ (z : List ℤ). length z) y.row ∙ length-set old (place g) o.c.Q_Q10 ∙ s.long;
        wide = ap (λ (z : List ℤ). length z) y.pred ∙ length-set (pred_row t.core.ps.rings) (place g) (shl32 o.c.LPC_exc_Q14 1) ∙ s.wide;
        at = y.at ∙ sym (ring-next g);
        row = λ h p q. ap (λ (z : List ℤ). word z (place h)) y.row ∙ holds-next Q old g o.c.Q_Q10 s.long level s.row h p q;
        seed =
            ap (λ (z : Paths). (get_or z.owns 0 no_path).«Seed») w.ps
            ∙ o.seed
            ∙ ap (λ (z : ℤ). seed_with (rand z) o.c.Q_Q10) s.seed
            ∙ ap (λ (z : ℤ). seed_with (rand (seeds Q s0 g)) z) level
            ∙ sym (seeds-next Q s0 g);
        init = ap (λ (z : Paths). (get_or z.owns 0 no_path).«SeedInit») w.ps ∙ o.init ∙ s.init;
        out =
            rw w.out
            (emit-fill f.first f.base d i (pulse_of (took rule f v x i t).Q_Q10) held s.out
            (λ now.
            ap pulse_of
            (a.out
            ∙ ap (λ (z : ℕ). word old ((z + d) % 40)) (ap down s.at ∙ down-ring g)
            ∙ holds-back Q old g d d1 d40 (late f.first f.base d i held now) s.row)
            ∙ is (g - d) (omega arith)));
      })
