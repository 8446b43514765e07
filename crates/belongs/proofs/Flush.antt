-- The flushes: the cheapest path lives, and its last pulses go out. In the middle of a frame all other paths are fined. Assumes nothing.
use Prim.Native.Nat.{ℕ, suc, ◌+◌, ◌-◌, ◌*◌, ◌%◌, ◌<◌, ◌≤◌}
use native.Mathlib.Omega.{arith}
use mathlib.Core.Path.{◌≡◌, refl, sym, ap, ◌∙◌, subst}
use mathlib.Core.Bool.{Bool, true, false}
use mathlib.Core.List.{List, []}
use lib.ListN.{get_or, set, length, length-set}
use lib.Seq.{get_or-set_same, get_or-set_other}
use lib.Dec.{eqb}
use borrow.Author.Tests.{eqb-true}
use lib.IntN.{ℤ, pos, ◌+ℤ◌}
use Rattle.fixed.specs.Iter.{either}
use Rattle.fixed.specs.Row.{word}
use Rattle.fixed.specs.Wrap.{wrap32}
use Rattle.fixed.proofs.Iters.{iter-keeps, one_more}
use Rattle.fixed.proofs.Lin.{lt-false}
use Rattle.fixed.proofs.Each.{each_long, each_in}
use Rattle.noise.specs.Output.{pulse_of}
use Rattle.path.specs.declared.structs.Path.{Path}
use Rattle.path.specs.Data.{no_path, Running, ring_q}
use Rattle.path.specs.Taken.{penalty}
use Rattle.steps.specs.Flush.{best_of, fit_middle, Outs, flush_turn, flushed, raised_path, other_path, others_raised}
use Rattle.steps.specs.Frame.{outs_of, flushed_run, middle_by}
use Rattle.steps.proofs.Best.{best-first, best-in}
use Rattle.counts.proofs.Flush.{put-at, middle}
use Rattle.heard.proofs.Ring.{place-flush}
use Rattle.heard.proofs.Between.{near}
use Rattle.belongs.specs.Costs.{range, fine}
use Rattle.belongs.proofs.Flushed.{best-lives, fined_but, living-flushed, flushed-alive}
use Rattle.belongs.proofs.Offsets.{fine-enough, Off, off-fine}
use Rattle.belongs.proofs.Held.{Ledger, own_of, level_row, Held, below-12}
use Rattle.belongs.proofs.Between.{path-by, same-ring}

-- ---- the cheapest path
-- it costs least, and lives
pub record Best {o : ℤ} {n len g e ψ : ℕ} {l : Ledger} {t : Running} (s : Held o n len g e ψ l t) (b : ℕ) : Type 0 where
  pub in-n : b < n
  pub least : (k : ℕ) → k < n → s.u b ≤ s.u k
  pub lives : s.living.alive b ≡ true

pub best-of : {o : ℤ} {n len g e ψ : ℕ} {l : Ledger} {t : Running} (s : Held o n len g e ψ l t) → 0 < n → Best s (best_of t.core.ps.owns n)
best-of {n = n} {t = t} s h =
    let owns = t.core.ps.owns in
    let b = best_of owns n in
    let i : b < n = best-in owns n h in
    let least : (k : ℕ) → k < n → s.u b ≤ s.u k =
    λ k q.
    let z = lt-false (get_or owns k no_path).RD_Q10 (get_or owns b no_path).RD_Q10 ((best-first owns n).best k q) in
    omega (arith, (s.paths k q).cost.is, (s.paths b i).cost.is) in
    record { in-n = i; least = least; lives = best-lives fine-enough s.living b i least }

-- ---- its last pulses
-- the pulses that are out so far, of `len` places
record Filled (len m : ℕ) (own : ℕ → ℤ) (o : List ℤ) : Type 0 where
  long : length o ≡ len
  are : (h : ℕ) → h < m → word o h ≡ own h

-- after a flush of a living path b the pulses below g are its own
pub flush-filled : {o : ℤ} {n len g ψ : ℕ} {l : Ledger} {t : Running} (d : ℕ) (s : Held o n len g (g - d) ψ l t) (b : ℕ) → b < n → s.living.alive b ≡ true
    → d ≤ g → d ≤ 40 → g ≤ len → (m : ℕ) (fit : ℤ → ℤ)
    → (length (flushed_run m d fit g b t).pulses ≡ len) × ((h : ℕ) → h < g → word (flushed_run m d fit g b t).pulses h ≡ own_of l b h)
unfolding flushed_run flushed
flush-filled {len = len} {g = g} {l = l} {t = t} d s b b-in lives dg d40 gl m fit =
    let q =
    iter-keeps (λ i (o : Outs). Filled len (g - d + i) (own_of l b) o.pulses) (flush_turn (4 * m) ring fit d g t.core.smpl_buf_idx) d step (outs_of t)
    (record { long = s.long; are = λ h r. s.out b b-in lives h (omega arith) }) in
    (q.long, λ h r. q.are h (omega arith))
  where
    ring : List (List ℤ)
    ring = get_or t.core.ps.rings b []

    -- the place in the ring of pulse i of the flush
    last : ℕ → ℕ
    last i = (t.core.smpl_buf_idx + d - 1 - i) % 40

    level : (i : ℕ) → i < d → pulse_of (word (get_or ring ring_q []) (last i)) ≡ own_of l b (g - d + i)
    level i h =
        ap (λ (p : ℕ). pulse_of (word (level_row t.core.ps b) ((p + d - 1 - i) % 40))) s.at
        ∙ ap (λ (p : ℕ). pulse_of (word (level_row t.core.ps b) p)) (place-flush g d i dg d40 h)
        ∙ (s.paths b b-in).levels (g - d + i) (omega arith) (near g d i dg d40)

    step : (i : ℕ) → i < d → (o : Outs) → Filled len (g - d + i) (own_of l b) o.pulses
        → Filled len (g - d + suc i) (own_of l b) (flush_turn (4 * m) ring fit d g t.core.smpl_buf_idx i o).pulses
    step i h o r =
        let e = (put-at (4 * m) ring fit (last i) (g - d + i) o).out in
        let v = pulse_of (word (get_or ring ring_q []) (last i)) in
        record {
          long = ap (λ (z : List ℤ). length z) e ∙ length-set o.pulses (g - d + i) v ∙ r.long;
          are = λ y q.
              ap (λ (z : List ℤ). word z y) e
              ∙ one_more (λ w. word (set o.pulses (g - d + i) v) w ≡ own_of l b w) y (g - d + i) (omega arith)
              (λ z. get_or-set_other o.pulses (g - d + i) y v (pos 0) (λ w. omega arith) ∙ r.are y z)
              (get_or-set_same o.pulses (g - d + i) v (pos 0) (omega (arith, r.long)) ∙ level i h);
        }

-- ---- in the middle
-- every path but the cheapest is fined
other-words : (w k : ℕ) (p : Path)
    → ((other_path w k p).«Seed» ≡ p.«Seed»)
    × (((other_path w k p).«SeedInit» ≡ p.«SeedInit») × ((other_path w k p).RD_Q10 ≡ either (eqb k w) p.RD_Q10 (wrap32 (p.RD_Q10 +ℤ penalty))))
unfolding other_path raised_path
other-words w k p = go (eqb k w)
  where
    go : (b : Bool)
        → ((either b p (raised_path p)).«Seed» ≡ p.«Seed»)
        × (((either b p (raised_path p)).«SeedInit» ≡ p.«SeedInit»)
        × ((either b p (raised_path p)).RD_Q10 ≡ either b p.RD_Q10 (wrap32 (p.RD_Q10 +ℤ penalty))))
    go true = (refl, (refl, refl))
    go false = (refl, (refl, refl))

others-at : (w n : ℕ) (o : List Path) (k : ℕ) → k < n → k < length o → get_or (others_raised w n o) k no_path ≡ other_path w k (get_or o k no_path)
unfolding others_raised
others-at w n o k h l = each_in no_path (λ j p. other_path w j p) n o k h l

others-long : (w n : ℕ) (o : List Path) → length (others_raised w n o) ≡ length o
unfolding others_raised
others-long w n o = each_long no_path (λ j p. other_path w j p) n o

-- what the flush leaves: these paths, the same rings
record MiddleIs (n : ℕ) (t u : Running) : Type 0 where
  owns : u.core.ps.owns ≡ others_raised (best_of t.core.ps.owns n) n t.core.ps.owns
  rings : u.core.ps.rings ≡ t.core.ps.rings
  at : u.core.smpl_buf_idx ≡ t.core.smpl_buf_idx

middle-is : (n l d : ℕ) (gain : ℤ) (t : Running) → MiddleIs n t (middle_by n l d gain t)
unfolding middle_by
middle-is n l d gain t = record { owns = refl; rings = refl; at = refl }

-- so are the costs as numbers
off-other : {g : ℕ} {z : ℤ} (u : ℕ → ℕ) (b k : ℕ) → Off g z (u k) → g ≤ 320 → u k ≤ g * range + 12 * fine
    → Off g (either (eqb k b) z (wrap32 (z +ℤ penalty))) (fined_but fine u b k)
unfolding fined_but
off-other {g} {z} u b k o h m = go (eqb k b)
  where
    go : (c : Bool) → Off g (either c z (wrap32 (z +ℤ penalty))) (either c (u k) (u k + fine))
    go true = o
    go false = off-fine false o h (omega arith)

-- so it holds after the flush that all is handed out, and that only the cheapest lives
pub held-middle : {o : ℤ} {n len : ℕ} {w : Ledger} (l d : ℕ) (gain : ℤ) (t : Running) → 0 < n → n ≤ 4 → d ≤ 2 * l → d ≤ 40 → 2 * l ≤ len → 2 * l ≤ 320
    → Held o n len (2 * l) (2 * l - d) 0 w t → Held o n len (2 * l) (2 * l) 10 w (middle_by n l d gain t)
held-middle {o} {n} {len} {w} l d gain t n0 n4 dl d40 ll l320 s =
    let b = best_of t.core.ps.owns n in
    let bo = best-of s n0 in
    let m = middle-is n l d gain t in
    let fl = flush-filled d s b bo.in-n bo.lives dl d40 ll l (fit_middle gain) in
    let out : (middle_by n l d gain t).pulses ≡ (flushed_run l d (fit_middle gain) (2 * l) b t).pulses = ap (λ (z : Outs). z.pulses) (middle n l d gain t).rows in
    let own : (k : ℕ) → k < n → get_or (middle_by n l d gain t).core.ps.owns k no_path ≡ other_path b k (get_or t.core.ps.owns k no_path) =
    λ k h. ap (λ (z : List Path). get_or z k no_path) m.owns ∙ others-at b n t.core.ps.owns k h (omega (arith, s.owns4)) in
    record {
      u = fined_but fine s.u b;
      j = s.j;
      owns4 = ap (λ (z : List Path). length z) m.owns ∙ others-long b n t.core.ps.owns ∙ s.owns4;
      rings4 = ap (λ (z : List (List (List ℤ))). length z) m.rings ∙ s.rings4;
      room = s.room;
      at = m.at ∙ s.at;
      paths = λ k h.
          let ow = other-words b k (get_or t.core.ps.owns k no_path) in
          path-by (ap (λ (z : Path). z.«Seed») (own k h) ∙ ow.0) (ap (λ (z : Path). z.«SeedInit») (own k h) ∙ ow.1.0)
          (subst (λ (z : ℤ). Off (2 * l) z (fined_but fine s.u b k)) (sym (ap (λ (z : Path). z.RD_Q10) (own k h) ∙ ow.1.1))
          (off-other s.u b k (s.paths k h).cost l320 (below-12 s k h)))
          (same-ring (ap (λ (z : List (List (List ℤ))). get_or z k []) m.rings) (s.paths k h).five)
          (s.paths k h);
      living = living-flushed fine-enough s.living n4 b bo.in-n bo.least;
      long = ap (λ (z : List ℤ). length z) out ∙ fl.0;
      out = λ k h q y a.
          let only : k ≡ b = eqb-true k b (sym (flushed-alive fine-enough s.living n4 b bo.in-n bo.least k) ∙ q) in
          ap (λ (z : List ℤ). word z y) out ∙ fl.1 y a ∙ ap (λ (z : ℕ). own_of w z y) (sym only);
    }
