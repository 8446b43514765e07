-- The flushes, in two frames in work that are equal but for the words past a bound: they close the gap of the delay. Assumes nothing.
use Prim.Native.Nat.{ℕ, suc, ◌+◌, ◌-◌, ◌*◌, ◌%◌, ◌<◌, ◌≤◌}
use native.Mathlib.Omega.{arith}
use mathlib.Core.Path.{◌≡◌, refl, ap, ◌∙◌}
use mathlib.Core.List.{List, []}
use lib.ListN.{get_or, set, length, length-set}
use lib.IntN.{ℤ}
use Rattle.fixed.proofs.Iters.{iter-rel}
use Rattle.noise.specs.Output.{pulse_of}
use Rattle.fixed.specs.Row.{word}
use Rattle.path.specs.Data.{Running, ring_q, ring_xq, ring_shape}
use Rattle.steps.specs.Flush.{best_of, fit_middle, Outs, flush_at, flush_turn, flushed}
use Rattle.steps.specs.Frame.{outs_of, flushed_run, middle_by}
use Rattle.counts.proofs.Rows.{Below, below-grow, below-past}
use Rattle.counts.proofs.Subframe.{Same}

-- ---- the three rows
-- equal but for the words from h + b on of the histories and from b on of the pulses
pub record OutsSame (m h b : ℕ) (o u : Outs) : Type 0 where
  pub long : length o.pulses ≡ m
  pub xq : Below (h + b) o.xq u.xq
  pub shp : Below (h + b) o.sLTP_shp_Q14 u.sLTP_shp_Q14
  pub out : Below b o.pulses u.pulses

-- what one sample of a flush writes
pub record Put (h : ℕ) (ring : List (List ℤ)) (fit : ℤ → ℤ) (last p : ℕ) (t u : Outs) : Type 0 where
  pub xq : u.xq ≡ set t.xq (h + p) (fit (word (get_or ring ring_xq []) last))
  pub shp : u.sLTP_shp_Q14 ≡ set t.sLTP_shp_Q14 (h + p) (word (get_or ring ring_shape []) last)
  pub out : u.pulses ≡ set t.pulses p (pulse_of (word (get_or ring ring_q []) last))

pub put-at : (h : ℕ) (ring : List (List ℤ)) (fit : ℤ → ℤ) (last p : ℕ) (t : Outs) → Put h ring fit last p t (flush_at h ring fit last p t)
unfolding flush_at
put-at h ring fit last p t = record { xq = refl; shp = refl; out = refl }

-- what each sample of two flushes keeps
flushed-rel : (R : ℕ → Outs → Outs → Type 0) (h : ℕ) (ring ring' : List (List ℤ)) (fit : ℤ → ℤ) (d g r r' : ℕ)
    → ((i : ℕ) → i < d → (o u : Outs) → R i o u → R (suc i) (flush_turn h ring fit d g r i o) (flush_turn h ring' fit d g r' i u))
    → (o u : Outs) → R 0 o u → R d (flushed h ring fit d g r o) (flushed h ring' fit d g r' u)
unfolding flushed
flushed-rel R h ring ring' fit d g r r' k o u q = iter-rel R (flush_turn h ring fit d g r) (flush_turn h ring' fit d g r') d k o u q

-- the same words go to the same places, one after the other
outs-turn : (h : ℕ) (ring : List (List ℤ)) (fit : ℤ → ℤ) (last p : ℕ) {m : ℕ} (o u : Outs) → OutsSame m h p o u
    → OutsSame m h (suc p) (flush_at h ring fit last p o) (flush_at h ring fit last p u)
outs-turn h ring fit last p {m} o u q =
    let a = put-at h ring fit last p o in
    let b = put-at h ring fit last p u in
    let e : h + suc p ≡ suc (h + p) = omega arith in
    record {
      long = ap (λ (l : List ℤ). length l) a.out ∙ length-set o.pulses p _ ∙ q.long;
      xq = rw (a.xq, b.xq, e) (below-grow q.xq _);
      shp = rw (a.shp, b.shp, e) (below-grow q.shp _);
      out = rw (a.out, b.out) (below-grow q.out _);
    }

outs-same : (h : ℕ) (ring : List (List ℤ)) (fit : ℤ → ℤ) (d g r : ℕ) {m : ℕ} (o u : Outs) → d ≤ g → OutsSame m h (g - d) o u
    → OutsSame m h g (flushed h ring fit d g r o) (flushed h ring fit d g r u)
outs-same h ring fit d g r {m} o u k q =
    let a : g - d + d ≡ g = omega arith in
    let b : g - d ≡ g - d + 0 = omega arith in
    rw a at
    (flushed-rel (λ i. OutsSame m h (g - d + i)) h ring ring fit d g r r
    (λ i z o u q.
    let e : g - d + suc i ≡ suc (g - d + i) = omega arith in
    rw e (outs-turn h ring fit ((r + d - 1 - i) % 40) (g - d + i) {m = m} o u q))
    o u (rw b at q))

-- whatever the rings hold, no pulse below g - d is written
pulse-turn : (h : ℕ) (ring ring' : List (List ℤ)) (fit : ℤ → ℤ) (last last' p : ℕ) {b : ℕ} (o u : Outs) → b ≤ p → Below b o.pulses u.pulses
    → Below b (flush_at h ring fit last p o).pulses (flush_at h ring' fit last' p u).pulses
pulse-turn h ring ring' fit last last' p o u k q =
    rw ((put-at h ring fit last p o).out, (put-at h ring' fit last' p u).out) (below-past q p _ _ k)

-- ---- the flush of a frame in work
flushed-is : (l d : ℕ) (fit : ℤ → ℤ) (g w : ℕ) (t : Running)
    → flushed_run l d fit g w t ≡ flushed (4 * l) (get_or t.core.ps.rings w []) fit d g t.core.smpl_buf_idx (outs_of t)
unfolding flushed_run
flushed-is l d fit g w t = refl

pub flush-same : (l d : ℕ) (fit : ℤ → ℤ) (g w : ℕ) {m : ℕ} (t u : Running) → d ≤ g → Same m (4 * l) (g - d) t u
    → OutsSame m (4 * l) g (flushed_run l d fit g w t) (flushed_run l d fit g w u)
flush-same l d fit g w {m} t u k r =
    rw (flushed-is l d fit g w t, flushed-is l d fit g w u, r.core)
    (outs-same (4 * l) (get_or u.core.ps.rings w []) fit d g u.core.smpl_buf_idx (outs_of t) (outs_of u) k
    (record { long = r.long; xq = r.xq; shp = r.shp; out = r.out }))

pub flush-past : (l d : ℕ) (fit : ℤ → ℤ) (g w z : ℕ) {b : ℕ} (t u : Running) → b ≤ g - d → Below b t.pulses u.pulses
    → Below b (flushed_run l d fit g w t).pulses (flushed_run l d fit g z u).pulses
flush-past l d fit g w z {b} t u k r =
    rw (flushed-is l d fit g w t, flushed-is l d fit g z u)
    (flushed-rel (λ i (o p : Outs). Below b o.pulses p.pulses) (4 * l) (get_or t.core.ps.rings w []) (get_or u.core.ps.rings z []) fit d g
    t.core.smpl_buf_idx u.core.smpl_buf_idx
    (λ i h o p q. pulse-turn (4 * l) _ _ fit _ _ (g - d + i) o p (omega arith) q) (outs_of t) (outs_of u) r)

-- ---- the flush in the middle: its rows, and paths that follow from the paths
pub record Middle (n l d : ℕ) (gain : ℤ) (t u : Running) : Type 0 where
  pub rows : outs_of u ≡ flushed_run l d (fit_middle gain) (2 * l) (best_of t.core.ps.owns n) t
  pub core : (z : Running) → z.core ≡ t.core → (middle_by n l d gain z).core ≡ u.core

pub middle : (n l d : ℕ) (gain : ℤ) (t : Running) → Middle n l d gain t (middle_by n l d gain t)
unfolding middle_by
middle n l d gain t = record { rows = refl; core = λ z e. rw e refl }

pub middle-same : (n l d : ℕ) (gain : ℤ) {m : ℕ} (t u : Running) → d ≤ 2 * l → Same m (4 * l) (2 * l - d) t u
    → Same m (4 * l) (2 * l) (middle_by n l d gain t) (middle_by n l d gain u)
middle-same n l d gain {m} t u k r =
    let a = middle n l d gain t in
    let b = middle n l d gain u in
    let w : best_of t.core.ps.owns n ≡ best_of u.core.ps.owns n = rw r.core refl in
    let q : OutsSame m (4 * l) (2 * l) (outs_of (middle_by n l d gain t)) (outs_of (middle_by n l d gain u)) =
    rw (a.rows, b.rows, w) (flush-same l d (fit_middle gain) (2 * l) (best_of u.core.ps.owns n) t u k r) in
    record { long = q.long; core = b.core t r.core; xq = q.xq; shp = q.shp; out = q.out }

pub middle-past : (n l d : ℕ) (gain : ℤ) {b : ℕ} (t u : Running) → b ≤ 2 * l - d → Below b t.pulses u.pulses
    → Below b (middle_by n l d gain t).pulses (middle_by n l d gain u).pulses
middle-past n l d gain {b} t u k r =
    rw (ap (λ (o : Outs). o.pulses) (middle n l d gain t).rows, ap (λ (o : Outs). o.pulses) (middle n l d gain u).rows)
    (flush-past l d (fit_middle gain) (2 * l) (best_of t.core.ps.owns n) (best_of u.core.ps.owns n) t u k r)
