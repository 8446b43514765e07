-- What holds of a frame in work after g samples, e of them handed out: each path's rings and seed have its own pulses behind them, and those paths that
-- may still win have the pulses that are out. Assumes nothing.
use Prim.Native.Nat.{ℕ, suc, ◌+◌, ◌*◌, ◌<◌, ◌≤◌}
use native.Mathlib.Omega.{arith}
use mathlib.Core.Path.{◌≡◌, sym, ◌∙◌, subst}
use mathlib.Core.Bool.{true}
use mathlib.Core.List.{List, []}
use lib.ListN.{get_or, length}
use lib.IntN.{ℤ, pos}
use Rattle.fixed.specs.Row.{word}
use Rattle.fixed.proofs.Iters.{cases}
use Rattle.seeds.specs.Generator.{rand}
use Rattle.residuals.specs.Residual.{signed_excitation}
use Rattle.noise.specs.Output.{pulse_of}
use Rattle.path.specs.Data.{no_path, Paths, Running, ring_rand_state, ring_q, ring_pred}
use Rattle.heard.proofs.Candidates.{Level}
use Rattle.heard.proofs.Ring.{place, ring_of, Holds}
use Rattle.heard.proofs.Reader.{pulse-out}
use Rattle.belongs.specs.Costs.{range, fine}
use Rattle.belongs.proofs.Dead.{some-dead}
use Rattle.belongs.proofs.Living.{Living, one-past}
use Rattle.belongs.proofs.Offsets.{Off}
use Rattle.belongs.proofs.Words.{Small, trail}
use Rattle.belongs.proofs.Noted.{Room}

-- ---- what each path carries
-- its pulses, and the excitation that it used
pub record Ledger : Type 0 where
  pub own : List (List ℤ)
  pub used : List (List ℤ)

-- path k's words
abbrev pub own_of : Ledger → ℕ → ℕ → ℤ
own_of l k h = word (get_or l.own k []) h

abbrev pub used_of : Ledger → ℕ → ℕ → ℤ
used_of l k h = word (get_or l.used k []) h

-- a pulse p and the excitation used for it are those of one level q, and the excitation has the sign of the seed
pub record Exact (o seed p used : ℤ) : Type 0 where
  pub q : ℤ
  pub level : Level o q
  pub pulse : pulse_of q ≡ p
  pub is : used ≡ signed_excitation (rand seed) q

-- such a pulse is from -32 to 30
pub exact-small : {o seed p used : ℤ} → Exact o seed p used → Small p
exact-small e = subst Small (sym (pulse-out e.level) ∙ e.pulse) (record { low = e.level.low; high = e.level.high })

-- ---- path k in the frame in work
-- its rings of words RandState, of levels and of predictions
abbrev pub mark_row : Paths → ℕ → List ℤ
mark_row p k = get_or (get_or p.rings k []) ring_rand_state []

abbrev pub level_row : Paths → ℕ → List ℤ
level_row p k = get_or (get_or p.rings k []) ring_q []

abbrev pub pred_row : Paths → ℕ → List ℤ
pred_row p k = get_or (get_or p.rings k []) ring_pred []

-- it costs u, began with seed j, and has these pulses and excitations behind it: its rings hold what the last 40 of them say, and zeros ahead of
-- sample g as long as nothing was written there
pub record PathIs (o : ℤ) (g u j : ℕ) (own exc : ℕ → ℤ) (k : ℕ) (p : Paths) : Type 0 where
  pub five : length (get_or p.rings k []) ≡ 5
  pub marks40 : length (mark_row p k) ≡ 40
  pub levels40 : length (level_row p k) ≡ 40
  pub preds40 : length (pred_row p k) ≡ 40
  pub cost : Off g (get_or p.owns k no_path).RD_Q10 u
  pub four : j < 4
  pub init : (get_or p.owns k no_path).«SeedInit» ≡ pos j
  pub seed : (get_or p.owns k no_path).«Seed» ≡ trail (pos j) own g
  pub marks : Holds (λ h. trail (pos j) own (suc h)) g (mark_row p k)
  pub blank : (h : ℕ) → g ≤ h → h < 40 → word (mark_row p k) (place h) ≡ pos 0
  pub levels : (h : ℕ) → h < g → g ≤ h + 40 → pulse_of (word (level_row p k) (place h)) ≡ own h
  pub exact : (h : ℕ) → h < g → Exact o (trail (pos j) own h) (own h) (exc h)

-- ---- all paths: n of them at offset o, with len places for pulses, and l what they carry. u is what each costs, and j the seed that it began with; ψ fines
-- may be from before the flush in the middle
pub record Held (o : ℤ) (n len g e ψ : ℕ) (l : Ledger) (t : Running) : Type 0 where
  pub u : ℕ → ℕ
  pub j : ℕ → ℕ
  pub owns4 : length t.core.ps.owns ≡ 4
  pub rings4 : length t.core.ps.rings ≡ 4
  pub room : Room n l.own × Room n l.used
  pub at : t.core.smpl_buf_idx ≡ ring_of g
  pub paths : (k : ℕ) → k < n → PathIs o g (u k) (j k) (own_of l k) (used_of l k) k t.core.ps
  pub living : Living fine n g e ψ u (λ k h. trail (pos (j k)) (own_of l k) (suc h))
  pub long : length t.pulses ≡ len
  pub out : (k : ℕ) → k < n → living.alive k ≡ true → (h : ℕ) → h < e → word t.pulses h ≡ own_of l k h

-- no cost is too large for the next sample: a dead path has at most 12 fines, since one is dead and there is a past
pub below-12 : {o : ℤ} {n len g e ψ : ℕ} {l : Ledger} {t : Running} (s : Held o n len g e ψ l t) (k : ℕ) → k < n → s.u k ≤ g * range + 12 * fine
below-12 {n = n} {g = g} s k h =
    let v = s.living in
    cases (v.alive k) (λ z. omega (arith, v.costing.small k h z))
    (λ z.
    let c : v.φ + v.ρ ≤ 12 = omega (arith, v.fines, one-past v, some-dead v.alive n k h z) in
    large (v.φ + v.ρ) c (v.costing.large k h))
  where
    large : (m : ℕ) → m ≤ 12 → s.u k ≤ g * range + m * fine → s.u k ≤ g * range + 12 * fine
    large m c z = omega arith
