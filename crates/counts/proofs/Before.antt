-- What comes before the samples of a subframe, in two frames in work that are equal but for the words past a bound: the flush, the rewhitening of the
-- history and the change of gain. Assumes nothing.
use Prim.Native.Nat.{ℕ, ◌+◌, ◌-◌, ◌*◌, ◌<◌, ◌≤◌}
use native.Mathlib.Omega.{arith}
use mathlib.Core.Path.{◌≡◌, refl, sym, ap, ◌∙◌}
use mathlib.Core.Bool.{Bool, true, false}
use mathlib.Core.List.{List}
use lib.ListN.{length, take, drop}
use lib.IntN.{ℤ, pos}
use Rattle.fixed.specs.Iter.{iter}
use Rattle.fixed.proofs.Iters.{iter-same, iter-rel, either-rel}
use Rattle.word_steps.specs.Gains.{gain_adj_Q16}
use Rattle.word_steps.specs.Filter.{tap, prediction, filtered, filter_turn, clear_turn, analysis}
use Rattle.path.specs.declared.structs.Fix.{Fix}
use Rattle.fixed.specs.Row.{word}
use Rattle.path.specs.Data.{Running}
use Rattle.path.specs.Scaled.{scale_turn, scaled_words}
use Rattle.products.specs.Product.{smulww}
use Rattle.steps.specs.Scale.{scaled}
use Rattle.limits.specs.Count.{same_z}
use Rattle.steps.specs.Frame.{middle_by, start_idx, rewhitened, rewhitened_at, refilled, Whitened, whitened_of, whitened, regained, flushed_first, whitened_first, regained_last, before}
use Rattle.counts.proofs.Rows.{Below, below-map, below-part}
use Rattle.counts.proofs.Subframe.{Same}
use Rattle.counts.proofs.Flush.{middle-same, middle-past}

-- ---- the analysis filter reads the first `order` coefficients
filtered-same : (input a b : List ℤ) (order ix : ℕ) → ((j : ℕ) → j < order → word a j ≡ word b j) → filtered input a order ix ≡ filtered input b order ix
unfolding filtered prediction
filtered-same input a b order ix e =
    rw (iter-same (tap input a ix) (tap input b ix) order (pos 0) (λ j h s. rw (e j h) refl)) refl

analysis-same : (out input a b : List ℤ) (order : ℕ) → ((j : ℕ) → j < order → word a j ≡ word b j) → analysis out input a order ≡ analysis out input b order
unfolding analysis
analysis-same out input a b order e =
    ap (iter clear_turn order)
    (iter-same (filter_turn input a order) (filter_turn input b order) (length input - order) out
    (λ k h row. rw (filtered-same input a b order (order + k) e) refl))

-- ---- the rewhitening reads history below 4L and the samples that are coded
rewhitened-same : (row s t a b : List ℤ) (order start from m h : ℕ) → Below h s t → from + m ≤ h → ((j : ℕ) → j < order → word a j ≡ word b j)
    → rewhitened row s a order start from m ≡ rewhitened row t b order start from m
unfolding rewhitened
rewhitened-same row s t a b order start from m h r k e =
    rw (below-part r from m k, analysis-same (take (640 - start) (drop start row)) (take m (drop from t)) a b order e) refl

row_same : (f : Fix) (a b s t row : List ℤ) → Below (4 * f.subfr_length + f.base) s t → ((j : ℕ) → j < f.predictLPCOrder → word a j ≡ word b j)
    → rewhitened_at f a s row ≡ rewhitened_at f b t row
row_same f a b s t row r e =
    rewhitened-same row s t a b f.predictLPCOrder (start_idx f) (start_idx f + f.base) (4 * f.subfr_length - start_idx f) (4 * f.subfr_length + f.base) r
    (omega arith) e

-- what it changes: the work row only
record Refilled (f : Fix) (inv : ℤ) (row : List ℤ) (t u : Running) : Type 0 where
  xq : u.xq ≡ t.xq
  shp : u.sLTP_shp_Q14 ≡ t.sLTP_shp_Q14
  out : u.pulses ≡ t.pulses
  core : (z : Running) → z.core ≡ t.core → (refilled f inv row z).core ≡ u.core

refill : (f : Fix) (inv : ℤ) (row : List ℤ) (t : Running) → Refilled f inv row t (refilled f inv row t)
unfolding refilled
refill f inv row t = record { xq = refl; shp = refl; out = refl; core = λ z e. rw e refl }

-- two frames in work, with the filtered history beside them
pub record WhiteSame (m h b : ℕ) (t u : Whitened) : Type 0 where
  pub run : Same m h b t.run u.run
  pub row : t.sLTP ≡ u.sLTP

refilled_same : (f : Fix) (inv : ℤ) (row : List ℤ) {m h b : ℕ} (t u : Running) → Same m h b t u → Same m h b (refilled f inv row t) (refilled f inv row u)
refilled_same f inv row t u r =
    let a = refill f inv row t in
    let b = refill f inv row u in
    record {
      long = ap (λ (l : List ℤ). length l) a.out ∙ r.long;
      core = b.core t r.core;
      xq = rw (a.xq, b.xq) r.xq;
      shp = rw (a.shp, b.shp) r.shp;
      out = rw (a.out, b.out) r.out;
    }

-- the whole of it: its parts by name
record White (f : Fix) (a : List ℤ) (inv : ℤ) (t : Running) (row : List ℤ) (w : Whitened) : Type 0 where
  run : w.run ≡ refilled f inv (rewhitened_at f a t.xq row) t
  sLTP : w.sLTP ≡ rewhitened_at f a t.xq row

white : (f : Fix) (a : List ℤ) (inv : ℤ) (t : Running) (row : List ℤ) → White f a inv t row (whitened f a inv t row)
unfolding whitened
white f a inv t row = record { run = refl; sLTP = refl }

whitened-same : (f : Fix) (a b : List ℤ) (inv : ℤ) {m : ℕ} (t u : Running) (row : List ℤ) → ((j : ℕ) → j < f.predictLPCOrder → word a j ≡ word b j)
    → Same m (4 * f.subfr_length) f.base t u
    → WhiteSame m (4 * f.subfr_length) f.base (whitened f a inv t row) (whitened f b inv u row)
whitened-same f a b inv {m} t u row e r =
    let p = white f a inv t row in
    let q = white f b inv u row in
    let same : rewhitened_at f a t.xq row ≡ rewhitened_at f b u.xq row = row_same f a b t.xq u.xq row r.xq e in
    record {
      run = rw (p.run, q.run, same) (refilled_same f inv (rewhitened_at f b u.xq row) t u r);
      row = p.sLTP ∙ same ∙ sym q.sLTP;
    }

-- ---- the change of gain scales words by what they were
scaled_words-same : (adj : ℤ) (a m : ℕ) {b : ℕ} {s t : List ℤ} → Below b s t → Below b (scaled_words adj a m s) (scaled_words adj a m t)
unfolding scaled_words
scaled_words-same adj a m {b} {s} {t} r =
    iter-rel (λ j. Below b) (scale_turn adj a) (scale_turn adj a) m (λ j h x y q. below-map (smulww adj) (a + j) q) s t r

record Scaled (f : Fix) (rewhite : Bool) (adj : ℤ) (t u : Running) : Type 0 where
  xq : u.xq ≡ t.xq
  shp : u.sLTP_shp_Q14 ≡ scaled_words adj f.base (4 * f.subfr_length) t.sLTP_shp_Q14
  out : u.pulses ≡ t.pulses
  core : (z : Running) → z.core ≡ t.core → (scaled f rewhite adj z).core ≡ u.core

scale : (f : Fix) (rewhite : Bool) (adj : ℤ) (t : Running) → Scaled f rewhite adj t (scaled f rewhite adj t)
unfolding scaled
scale f rewhite adj t = record { xq = refl; shp = refl; out = refl; core = λ z e. rw e refl }

scaled-same : (f : Fix) (rewhite : Bool) (adj : ℤ) {m h b : ℕ} (t u : Running) → Same m h b t u → Same m h b (scaled f rewhite adj t) (scaled f rewhite adj u)
scaled-same f rewhite adj t u r =
    let a = scale f rewhite adj t in
    let b = scale f rewhite adj u in
    record {
      long = ap (λ (l : List ℤ). length l) a.out ∙ r.long;
      core = b.core t r.core;
      xq = rw (a.xq, b.xq) r.xq;
      shp = rw (a.shp, b.shp) (scaled_words-same adj f.base (4 * f.subfr_length) r.shp);
      out = rw (a.out, b.out) r.out;
    }

-- by cases of its test
regained-rel : (R : Running → Running → Type 0) (f : Fix) (rewhite : Bool) (prev : ℤ) (t u : Running) → R t u
    → ((adj : ℤ) → R (scaled f rewhite adj t) (scaled f rewhite adj u)) → R (regained f rewhite prev t) (regained f rewhite prev u)
unfolding regained
regained-rel R f rewhite prev t u r s =
    either-rel R (same_z f.Gain_Q16 prev) t (scaled f rewhite (gain_adj_Q16 prev f.Gain_Q16) t) u (scaled f rewhite (gain_adj_Q16 prev f.Gain_Q16) u)
    (λ e. r) (λ e. s (gain_adj_Q16 prev f.Gain_Q16))

-- ---- where a subframe stands: how far two frames agree before its flush (b0) and after it (b1)
pub record Stands (again rewhite : Bool) (f : Fix) (b0 b1 : ℕ) : Type 0 where
  pub short : f.decisionDelay ≤ 2 * f.subfr_length
  pub flush0 : again ≡ true → b0 ≡ 2 * f.subfr_length - f.decisionDelay
  pub flush1 : again ≡ true → b1 ≡ 2 * f.subfr_length
  pub stays : again ≡ false → b0 ≡ b1
  pub white : rewhite ≡ true → b1 ≡ f.base

-- the flush, by cases of its test
flushed-rel : (R : Running → Running → Type 0) (again : Bool) (f : Fix) (gain : ℤ) (t u : Running)
    → (again ≡ true → R (middle_by f.nStates f.subfr_length f.decisionDelay gain t) (middle_by f.nStates f.subfr_length f.decisionDelay gain u))
    → (again ≡ false → R t u) → R (flushed_first again f gain t) (flushed_first again f gain u)
unfolding flushed_first
flushed-rel R again f gain t u p q = either-rel R again _ _ _ _ p q

flushed-same : (again rewhite : Bool) (f : Fix) (gain : ℤ) {m b0 b1 : ℕ} (t u : Running) → Stands again rewhite f b0 b1 → Same m (4 * f.subfr_length) b0 t u
    → Same m (4 * f.subfr_length) b1 (flushed_first again f gain t) (flushed_first again f gain u)
flushed-same again rewhite f gain {m} {b0} {b1} t u s r =
    flushed-rel (Same m (4 * f.subfr_length) b1) again f gain t u
    (λ e. rw (s.flush1 e) (middle-same f.nStates f.subfr_length f.decisionDelay gain t u s.short (rw (s.flush0 e) at r)))
    (λ e. rw (s.stays e) at r)

-- the rewhitening, by cases of its test
white-rel : (R : Whitened → Whitened → Type 0) (rewhite : Bool) (f : Fix) (a b : List ℤ) (inv inv' : ℤ) (t u : Running) (row row' : List ℤ)
    → (rewhite ≡ true → R (whitened f a inv t row) (whitened f b inv' u row')) → (rewhite ≡ false → R (whitened_of t row) (whitened_of u row'))
    → R (whitened_first rewhite f a inv t row) (whitened_first rewhite f b inv' u row')
unfolding whitened_first
white-rel R rewhite f a b inv inv' t u row row' p q = either-rel R rewhite _ _ _ _ p q

white-first-same : (rewhite : Bool) (f : Fix) (a b : List ℤ) (inv inv' : ℤ) {m b1 : ℕ} (t u : Running) (row : List ℤ) → ((j : ℕ) → j < f.predictLPCOrder → word a j ≡ word b j)
    → (rewhite ≡ true → inv ≡ inv') → (rewhite ≡ true → b1 ≡ f.base) → Same m (4 * f.subfr_length) b1 t u
    → WhiteSame m (4 * f.subfr_length) b1 (whitened_first rewhite f a inv t row) (whitened_first rewhite f b inv' u row)
white-first-same rewhite f a b inv inv' {m} {b1} t u row e i k r =
    white-rel (WhiteSame m (4 * f.subfr_length) b1) rewhite f a b inv inv' t u row row
    (λ c. rw (i c, k c) (whitened-same f a b inv' t u row e (rw (k c) at r)))
    (λ c. record { run = r; row = refl })

-- ---- all three, of two frames in work
before-rel : (R : Whitened → Whitened → Type 0) (again rewhite : Bool) (f : Fix) (a b : List ℤ) (gain1 inv inv' prev prev' : ℤ) (t u : Running) (row row' : List ℤ)
    → R (regained_last rewhite f prev (whitened_first rewhite f a inv (flushed_first again f gain1 t) row))
    (regained_last rewhite f prev' (whitened_first rewhite f b inv' (flushed_first again f gain1 u) row'))
    → R (before again rewhite f a gain1 inv prev t row) (before again rewhite f b gain1 inv' prev' u row')
unfolding before
before-rel R again rewhite f a b gain1 inv inv' prev prev' t u row row' r = r

pub before_same : (again rewhite : Bool) (f : Fix) (a b : List ℤ) (gain1 inv inv' prev : ℤ) {m b0 b1 : ℕ} (t u : Running) (row : List ℤ)
    → Stands again rewhite f b0 b1 → ((j : ℕ) → j < f.predictLPCOrder → word a j ≡ word b j) → (rewhite ≡ true → inv ≡ inv') → Same m (4 * f.subfr_length) b0 t u
    → WhiteSame m (4 * f.subfr_length) b1 (before again rewhite f a gain1 inv prev t row) (before again rewhite f b gain1 inv' prev u row)
before_same again rewhite f a b gain1 inv inv' prev {m} {b0} {b1} t u row s e i r =
    let q =
    white-first-same rewhite f a b inv inv' (flushed_first again f gain1 t) (flushed_first again f gain1 u) row e i s.white
    (flushed-same again rewhite f gain1 t u s r) in
    before-rel (WhiteSame m (4 * f.subfr_length) b1) again rewhite f a b gain1 inv inv' prev prev t u row row
    (record {
      run =
          regained-rel (Same m (4 * f.subfr_length) b1) f rewhite prev (whitened_first rewhite f a inv (flushed_first again f gain1 t) row).run
          (whitened_first rewhite f b inv' (flushed_first again f gain1 u) row).run q.run (λ adj. scaled-same f rewhite adj _ _ q.run);
      row = q.row;
    })

-- ---- the pulses: only the flush writes any, and none below 2L - D
regained-out : (f : Fix) (rewhite : Bool) (prev : ℤ) (t : Running) → (regained f rewhite prev t).pulses ≡ t.pulses
regained-out f rewhite prev t =
    regained-rel (λ (p q : Running). p.pulses ≡ t.pulses) f rewhite prev t t refl (λ adj. (scale f rewhite adj t).out)

white-out : (rewhite : Bool) (f : Fix) (a : List ℤ) (inv : ℤ) (t : Running) (row : List ℤ) → (whitened_first rewhite f a inv t row).run.pulses ≡ t.pulses
white-out rewhite f a inv t row =
    white-rel (λ (p q : Whitened). p.run.pulses ≡ t.pulses) rewhite f a a inv inv t t row row
    (λ c. ap (λ (z : Running). z.pulses) (white f a inv t row).run ∙ (refill f inv (rewhitened_at f a t.xq row) t).out) (λ c. refl)

pub before-past : (again rewhite : Bool) (f : Fix) (a : List ℤ) (gain1 inv prev prev' : ℤ) {b : ℕ} (t u : Running) (row row' : List ℤ)
    → (again ≡ true → b ≤ 2 * f.subfr_length - f.decisionDelay) → Below b t.pulses u.pulses
    → Below b (before again rewhite f a gain1 inv prev t row).run.pulses (before again rewhite f a gain1 inv prev' u row').run.pulses
before-past again rewhite f a gain1 inv prev prev' {b} t u row row' k r =
    let p = flushed_first again f gain1 t in
    let q = flushed_first again f gain1 u in
    before-rel (λ (v w : Whitened). Below b v.run.pulses w.run.pulses) again rewhite f a a gain1 inv inv prev prev' t u row row'
    (rw (
      regained-out f rewhite prev (whitened_first rewhite f a inv p row).run,
      white-out rewhite f a inv p row,
      regained-out f rewhite prev' (whitened_first rewhite f a inv q row').run,
      white-out rewhite f a inv q row',
    )
    (flushed-rel (λ (v w : Running). Below b v.pulses w.pulses) again f gain1 t u
    (λ e. middle-past f.nStates f.subfr_length f.decisionDelay gain1 t u (k e) r) (λ e. r)))
