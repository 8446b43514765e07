-- The samples of a subframe, in two frames in work that are equal but for the words of three rows past a bound. Each step keeps that, and moves the
-- bound: every read falls below it. Assumes nothing.
use Prim.Native.Nat.{ℕ, suc, ◌+◌, ◌-◌, ◌*◌, ◌<◌, ◌≤◌}
use native.Mathlib.Omega.{arith}
use native.Mathlib.Nat.{zero-add}
use mathlib.Core.Path.{◌≡◌, refl, ap, ◌∙◌}
use mathlib.Core.Bool.{Bool, true, false}
use mathlib.Core.List.{List}
use lib.ListN.{length, length-set}
use lib.Dec.{ltb, leb}
use borrow.Author.Tests.{ltb-true, leb-true, leb-false}
use lib.IntN.{ℤ}
use Rattle.fixed.specs.Iter.{either}
use Rattle.fixed.proofs.Iters.{iter-rel}
use Rattle.word_steps.specs.Harmonic.{shaped_lag, ltp_term}
use Rattle.noise.specs.Output.{pulse_of, xq_out}
use Rattle.path.specs.declared.structs.Fix.{Fix}
use Rattle.path.specs.declared.structs.Common.{Common}
use Rattle.fixed.specs.Row.{word}
use Rattle.path.specs.Data.{Paths, Core, Running, Rows}
use Rattle.steps.specs.Among.{Rule}
use Rattle.steps.specs.Settled.{Settled}
use Rattle.steps.specs.Subframe.{move_back, subframe}
use Rattle.steps.specs.Turn.{took_from, took, put_at, put, turn}
use Rattle.steps.specs.Leaving.{leaves, emit}
use Rattle.steps.specs.Shared.{predicted, harmonic, common}
use Rattle.places.specs.Places.{down, delayed}
use Rattle.counts.proofs.Rows.{either_same, Below, below_at, below_less, below-grow}
use Rattle.counts.proofs.Sample.{RowsSame, sample-same}

-- ---- two frames in work
-- equal but for the words from h + b on of the histories and from b on of the pulses, of which there are m
pub record Same (m h b : ℕ) (t u : Running) : Type 0 where
  pub long : length t.pulses ≡ m
  pub core : t.core ≡ u.core
  pub xq : Below (h + b) t.xq u.xq
  pub shp : Below (h + b) t.sLTP_shp_Q14 u.sLTP_shp_Q14
  pub out : Below b t.pulses u.pulses

-- how far the rows agree after i samples of a subframe
abbrev pub bound : Bool → ℕ → ℕ → ℕ → ℕ
bound true base d i = base + (i - d)
bound false base d i = base + i - d

-- ---- what a sample reads
-- the long-term prediction
predicted-same : (f : Fix) (a b ltp : List ℤ) (i : ℕ) → (f.voiced ≡ true → a ≡ b) → predicted f a ltp i ≡ predicted f b ltp i
unfolding predicted
predicted-same f a b ltp i e = either_same f.voiced _ _ _ _ (λ c. rw (e c) refl) (λ c. refl)

-- three shaping words around a place
shaped-same : (s t : List ℤ) (at : ℕ) (packed ltp : ℤ) (b : ℕ) → Below b s t → at < b → ltp_term s at packed ltp ≡ ltp_term t at packed ltp
unfolding ltp_term shaped_lag
shaped-same s t at packed ltp b r h =
    rw (below_at r at h, below_at r (at - 2) (omega arith), below_at r (at - 1) (omega arith)) refl

-- the harmonic term: nothing where there is no lag
pub harmonic-same : (f : Fix) (g h : ℤ) (s t : List ℤ) (i : ℕ) (ltp : ℤ) (b : ℕ) → Below b s t
    → (0 < f.lag → 4 * f.subfr_length + f.base + i + 1 - f.lag < b) → (0 < f.lag → g ≡ h) → harmonic f g s i ltp ≡ harmonic f h t i ltp
unfolding harmonic
harmonic-same f g h s t i ltp b r low e =
    either_same (ltb 0 f.lag) _ _ _ _
    (λ c.
    let some = ltb-true 0 f.lag c in
    ap (λ (z : ℤ). ltp_term s (4 * f.subfr_length + f.base + i + 1 - f.lag) z ltp) (e some) ∙ shaped-same s t (4 * f.subfr_length + f.base + i + 1 - f.lag) h ltp b r (low some))
    (λ c. refl)

-- what all paths share
common-same : (f : Fix) (v w : Rows) → RowsSame f v w → (x y : List ℤ) (i : ℕ) → word x (f.base + i) ≡ word y (f.base + i) → (t u : Running) → t.core ≡ u.core
    → ((ltp : ℤ) → harmonic f v.half.HarmShapeFIRPacked_Q14 t.sLTP_shp_Q14 i ltp ≡ harmonic f w.half.HarmShapeFIRPacked_Q14 u.sLTP_shp_Q14 i ltp)
    → common f v x i t ≡ common f w y i u
unfolding common
common-same f v w s x y i e t u q h =
    rw (q, e, predicted-same f v.b w.b u.core.sLTP_Q15 i s.b, h (predicted f w.b u.core.sLTP_Q15 i)) refl

took_from-same : (rule : Rule) (f : Fix) (v w : Rows) → RowsSame f v w → (i r0 : ℕ) (p : Paths) (s : Common) → took_from rule f v i r0 p s ≡ took_from rule f w i r0 p s
unfolding took_from
took_from-same rule f v w q i r0 p s = sample-same rule f v w q s i r0 (down r0) (delayed f (down r0)) p

-- the sample itself
pub took-same : (rule : Rule) (f : Fix) (v w : Rows) → RowsSame f v w → (x y : List ℤ) (i : ℕ) → word x (f.base + i) ≡ word y (f.base + i) → (t u : Running) → t.core ≡ u.core
    → ((ltp : ℤ) → harmonic f v.half.HarmShapeFIRPacked_Q14 t.sLTP_shp_Q14 i ltp ≡ harmonic f w.half.HarmShapeFIRPacked_Q14 u.sLTP_shp_Q14 i ltp)
    → took rule f v x i t ≡ took rule f w y i u
unfolding took
took-same rule f v w s x y i e t u q h =
    took_from-same rule f v w s i t.core.smpl_buf_idx t.core.ps (common f v x i t)
    ∙ ap (λ (c : Core). took_from rule f w i c.smpl_buf_idx c.ps (common f v x i t)) q
    ∙ ap (took_from rule f w i u.core.smpl_buf_idx u.core.ps) (common-same f v w s x y i e t u q h)

-- ---- what a sample writes
-- the gain of the sample that leaves
abbrev gain_of : Fix → Core → ℤ
gain_of f c = word c.delayedGain_Q10 (delayed f (down c.smpl_buf_idx))

pub record Wrote (f : Fix) (i : ℕ) (s : Settled) (t u : Running) : Type 0 where
  pub xq : u.xq ≡ emit (leaves f i) t.xq (4 * f.subfr_length + (f.base + i - f.decisionDelay)) (xq_out s.Xq_Q14 (gain_of f t.core) 8)
  pub shp : u.sLTP_shp_Q14 ≡ emit (leaves f i) t.sLTP_shp_Q14 (4 * f.subfr_length + (f.base + i - f.decisionDelay)) s.Shape_Q14
  pub out : u.pulses ≡ emit (leaves f i) t.pulses (f.base + i - f.decisionDelay) (pulse_of s.Q_Q10)
  pub ps : u.core.ps ≡ s.ps
  pub at : u.core.smpl_buf_idx ≡ down t.core.smpl_buf_idx
  pub core : (z : Running) → z.core ≡ t.core → (put f i s z).core ≡ u.core

pub wrote : (f : Fix) (i : ℕ) (s : Settled) (t : Running) → Wrote f i s t (put f i s t)
unfolding put put_at
wrote f i s t = record { xq = refl; shp = refl; out = refl; ps = refl; at = refl; core = λ z e. rw e refl }

-- the words that leave: what two rows are written with is the same
emit-same : (first : Bool) (h base d i : ℕ) {s t : List ℤ} (v : ℤ) → (first ≡ false → d ≤ base) → Below (h + bound first base d i) s t
    → Below (h + bound first base d (suc i)) (emit (either first (leb d i) true) s (h + (base + i - d)) v) (emit (either first (leb d i) true) t (h + (base + i - d)) v)
emit-same true h base d i {s} {t} v k r = go (leb d i) refl
  where
    go : (c : Bool) → leb d i ≡ c → Below (h + (base + (suc i - d))) (emit c s (h + (base + i - d)) v) (emit c t (h + (base + i - d)) v)
    go true e =
        let q = leb-true d i e in
        let a : suc (h + (base + (i - d))) ≡ h + (base + (suc i - d)) = omega arith in
        let p : h + (base + (i - d)) ≡ h + (base + i - d) = omega arith in
        rw (← a, ← p) (below-grow r v)
    go false e =
        let q = leb-false d i e in
        below_less (omega arith) r
emit-same false h base d i {s} {t} v k r =
    let q = k refl in
    let a : suc (h + (base + i - d)) ≡ h + (base + suc i - d) = omega arith in
    rw (← a) (below-grow r v)

-- .. and the pulses
pub emit-out : (first : Bool) (base d i : ℕ) {s t : List ℤ} (v : ℤ) → (first ≡ false → d ≤ base) → Below (bound first base d i) s t
    → Below (bound first base d (suc i)) (emit (either first (leb d i) true) s (base + i - d) v) (emit (either first (leb d i) true) t (base + i - d) v)
emit-out first base d i {s} {t} v k r =
    simp zero-add at (emit-same first 0 base d i {s = s} {t = t} v k (simp zero-add r))

pub emit-long : (now : Bool) (s : List ℤ) (p : ℕ) (v : ℤ) → length (emit now s p v) ≡ length s
emit-long true s p v = length-set s p v
emit-long false s p v = refl

-- ---- what the lags owe: the delay is behind each read
pub record Behind (f : Fix) : Type 0 where
  pub lag : 0 < f.lag → f.decisionDelay + 3 ≤ f.lag
  pub late : f.first ≡ false → f.decisionDelay ≤ f.base
  pub some : 0 < 4 * f.subfr_length

read_below : (first : Bool) (h base d i lag : ℕ) → 0 < h → d + 3 ≤ lag → (first ≡ false → d ≤ base) → h + base + i + 1 - lag < h + bound first base d i
read_below true h base d i lag p l k = omega arith
read_below false h base d i lag p l k = omega (arith, k refl)

put_same : (f : Fix) → Behind f → (i : ℕ) (s : Settled) {m : ℕ} (t u : Running) → Same m (4 * f.subfr_length) (bound f.first f.base f.decisionDelay i) t u
    → Same m (4 * f.subfr_length) (bound f.first f.base f.decisionDelay (suc i)) (put f i s t) (put f i s u)
unfolding leaves
put_same f k i s {m} t u r =
    let a = wrote f i s t in
    let b = wrote f i s u in
    let v = xq_out s.Xq_Q14 (gain_of f u.core) 8 in
    record {
      long = ap (λ (l : List ℤ). length l) a.out ∙ emit-long (either f.first (leb f.decisionDelay i) true) t.pulses (f.base + i - f.decisionDelay) (pulse_of s.Q_Q10) ∙ r.long;
      core = b.core t r.core;
      xq = rw (a.xq, b.xq, r.core) (emit-same f.first (4 * f.subfr_length) f.base f.decisionDelay i v k.late r.xq);
      shp = rw (a.shp, b.shp) (emit-same f.first (4 * f.subfr_length) f.base f.decisionDelay i s.Shape_Q14 k.late r.shp);
      out = rw (a.out, b.out) (emit-out f.first f.base f.decisionDelay i (pulse_of s.Q_Q10) k.late r.out);
    }

-- ---- one sample, all samples
pub turn_is : (rule : Rule) (f : Fix) (v : Rows) (x : List ℤ) (i : ℕ) (t : Running) → turn rule f v x i t ≡ put f i (took rule f v x i t) t
unfolding turn
turn_is rule f v x i t = refl

-- what a sample writes
pub turn-wrote : (rule : Rule) (f : Fix) (v : Rows) (x : List ℤ) (i : ℕ) (t : Running) → Wrote f i (took rule f v x i t) t (turn rule f v x i t)
unfolding turn
turn-wrote rule f v x i t = wrote f i (took rule f v x i t) t

turn-same : (rule : Rule) (f : Fix) (v w : Rows) → RowsSame f v w → Behind f → (x : List ℤ) (i : ℕ) {m : ℕ} (t u : Running)
    → Same m (4 * f.subfr_length) (bound f.first f.base f.decisionDelay i) t u
    → Same m (4 * f.subfr_length) (bound f.first f.base f.decisionDelay (suc i)) (turn rule f v x i t) (turn rule f w x i u)
turn-same rule f v w s k x i {m} t u r =
    let e : took rule f v x i t ≡ took rule f w x i u =
    took-same rule f v w s x x i refl t u r.core
    (λ ltp.
    harmonic-same f v.half.HarmShapeFIRPacked_Q14 w.half.HarmShapeFIRPacked_Q14 t.sLTP_shp_Q14 u.sLTP_shp_Q14 i ltp _ r.shp
    (λ z. read_below f.first (4 * f.subfr_length) f.base f.decisionDelay i f.lag k.some (k.lag z) k.late) s.harm) in
    rw (turn_is rule f v x i t, turn_is rule f w x i u, e) (put_same f k i (took rule f w x i u) t u r)

-- after the samples only LPC words move, and each path's by its own
pub record MovedBack (f : Fix) (t u : Running) : Type 0 where
  pub xq : u.xq ≡ t.xq
  pub shp : u.sLTP_shp_Q14 ≡ t.sLTP_shp_Q14
  pub out : u.pulses ≡ t.pulses
  pub core : (z : Running) → z.core ≡ t.core → (move_back f z).core ≡ u.core

pub moved_back : (f : Fix) (t : Running) → MovedBack f t (move_back f t)
unfolding move_back
moved_back f t = record { xq = refl; shp = refl; out = refl; core = λ z e. rw e refl }

-- what each sample of two subframes keeps
pub subframe-rel : (R : ℕ → Running → Running → Type 0) (S : Running → Running → Type 0) (rule : Rule) (f : Fix) (v w : Rows) (x y : List ℤ)
    → ((i : ℕ) → i < f.subfr_length → (t u : Running) → R i t u → R (suc i) (turn rule f v x i t) (turn rule f w y i u))
    → ((t u : Running) → R f.subfr_length t u → S (move_back f t) (move_back f u))
    → (t u : Running) → R 0 t u → S (subframe rule f v x t) (subframe rule f w y u)
unfolding subframe
subframe-rel R S rule f v w x y k e t u r =
    e _ _ (iter-rel R (turn rule f v x) (turn rule f w y) f.subfr_length k t u r)

back-same : (f : Fix) {m h b : ℕ} (t u : Running) → Same m h b t u → Same m h b (move_back f t) (move_back f u)
back-same f t u r =
    let a = moved_back f t in
    let b = moved_back f u in
    record {
      long = ap (λ (l : List ℤ). length l) a.out ∙ r.long;
      core = b.core t r.core;
      xq = rw (a.xq, b.xq) r.xq;
      shp = rw (a.shp, b.shp) r.shp;
      out = rw (a.out, b.out) r.out;
    }

pub subframe-same : (rule : Rule) (f : Fix) (v w : Rows) → RowsSame f v w → Behind f → (x : List ℤ) {m : ℕ} (t u : Running)
    → Same m (4 * f.subfr_length) (bound f.first f.base f.decisionDelay 0) t u
    → Same m (4 * f.subfr_length) (bound f.first f.base f.decisionDelay f.subfr_length) (subframe rule f v x t) (subframe rule f w x u)
subframe-same rule f v w s k x {m} t u r =
    subframe-rel (λ i. Same m (4 * f.subfr_length) (bound f.first f.base f.decisionDelay i))
    (Same m (4 * f.subfr_length) (bound f.first f.base f.decisionDelay f.subfr_length)) rule f v w x x
    (λ i h t u. turn-same rule f v w s k x i {m = m} t u) (λ t u. back-same f t u) t u r
