-- One path before the first sample: zeros in its rings, and both its seeds are the seed given, modulo 4. Assumes nothing.
use Prim.Native.Nat.{ℕ, ◌+◌, ◌%◌, ◌≤◌}
use native.Mathlib.Omega.{arith}
use mathlib.Core.Path.{◌≡◌, refl, sym, ◌∙◌, subst}
use mathlib.Core.List.{List, []}
use lib.ListN.{get_or, length, replicate}
use lib.IntN.{ℤ, pos}
use Rattle.limits.specs.Count.{nat_z}
use Rattle.silk.specs.State.{zeros}
use Rattle.path.specs.Data.{no_path, Paths, paths, ring_q, ring_pred}
use Rattle.steps.specs.Begin.{zero_path, zero_lpcs, zero_rings, own_from, start_rings, begun}
use Rattle.steps.specs.Call.{Call, paths_of}
use Rattle.steps.specs.Frame.{start_paths, start}
use Rattle.heard.proofs.One.{level_row, pred_row, There}
use Rattle.heard.proofs.Kept.{seeds-0, Kept}

-- the seed that is given, which is the first path's own where it is at most 3
abbrev pub given_seed : Call → ℤ
given_seed c = pos (nat_z c.settings.Seed)

record Started (s0 : ℤ) (p : Paths) : Type 0 where
  there : There p
  long : length (level_row p.rings) ≡ 40
  wide : length (pred_row p.rings) ≡ 40
  seed : (get_or p.owns 0 no_path).«Seed» ≡ s0
  init : (get_or p.owns 0 no_path).«SeedInit» ≡ s0

rings-start : (shape : ℤ)
    → (length (start_rings shape) ≡ 5) × ((length (get_or (start_rings shape) ring_q []) ≡ 40) × (length (get_or (start_rings shape) ring_pred []) ≡ 40))
unfolding start_rings zeros
rings-start shape = (refl, (refl, refl))

begun-one : (ar2 : List ℤ) (lf diff : ℤ) (lpc : List ℤ) (shape : ℤ) (seed n : ℕ) → n ≡ 1
    → Started (pos ((0 + seed) % 4)) (begun ar2 lf diff lpc shape seed n (paths (replicate 4 zero_path) zero_lpcs zero_rings))
unfolding begun zero_rings own_from
begun-one ar2 lf diff lpc shape seed n e =
    let r = rings-start shape in
    rw e
    (record {
      there = record { own = omega arith; some = omega arith; five = r.0 };
      long = r.1.0;
      wide = r.1.1;
      seed = refl;
      init = refl;
    })

start-paths : (c : Call) → paths_of c ≡ 1 → nat_z c.settings.Seed ≤ 3 → Started (given_seed c) (start_paths c)
unfolding start_paths
start-paths c e h =
    let n = nat_z c.settings.Seed in
    let a : (0 + n) % 4 ≡ n = omega arith in
    subst (λ (s : ℕ). Started (pos s) (start_paths c)) a (begun-one _ _ _ _ _ n (paths_of c) e)

-- what is kept, before the first sample
pub start-kept : (c : Call) (out ps : List ℤ) (Q : ℕ → ℤ) → paths_of c ≡ 1 → nat_z c.settings.Seed ≤ 3 → length out ≡ length ps
    → Kept Q (given_seed c) ps 0 0 (start c out).run
unfolding start
start-kept c out ps Q one small len =
    let s = start-paths c one small in
    record {
      there = s.there;
      long = s.long;
      wide = s.wide;
      at = refl;
      row = λ h p q. absurd (omega arith);
      seed = s.seed ∙ sym (seeds-0 Q (given_seed c));
      init = s.init;
      out = record { len = len; eq = refl };
    }
