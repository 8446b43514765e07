-- What holds of a frame in work before its first sample: rings of zeros, four seeds, rows with nothing in them yet. Assumes nothing.
use Prim.Native.Nat.{ℕ, suc, ◌+◌, ◌-◌, ◌*◌, ◌%◌, ◌<◌, ◌≤◌}
use native.Mathlib.Omega.{arith}
use native.Mathlib.Nat.{mod-lt}
use mathlib.Core.Path.{◌≡◌, refl, sym, ap, ◌∙◌, subst}
use mathlib.Core.List.{List, []}
use lib.ListN.{get_or, set, length, replicate, length-replicate, get_or-replicate}
use lib.Dec.{lit<}
use lib.IntN.{ℤ, pos}
use Rattle.fixed.specs.Iter.{iter}
use Rattle.fixed.specs.Row.{word}
use Rattle.fixed.proofs.Iters.{iter-rel}
use Rattle.fixed.proofs.Each.{each_turn, each_long, each_in}
use Rattle.limits.specs.Count.{nat_z}
use Rattle.silk.specs.State.{zeros}
use Rattle.silk.proofs.Zeros.{zeros-word}
use Rattle.path.specs.declared.structs.Path.{Path}
use Rattle.path.specs.Data.{no_path, Paths, paths, ring_rand_state, ring_q, ring_pred}
use Rattle.steps.specs.Begin.{zero_path, zero_lpcs, zero_rings, own_from, start_lpc, start_rings, begin_turn, begun}
use Rattle.steps.specs.Call.{Call, length_of, paths_of}
use Rattle.steps.specs.Frame.{start_paths, start}
use Rattle.steps.specs.Carried.{no_rows}
use Rattle.heard.proofs.Ring.{place}
use Rattle.belongs.specs.Costs.{fine}
use Rattle.belongs.proofs.Flushed.{living-start}
use Rattle.belongs.proofs.Offsets.{Off}
use Rattle.belongs.proofs.Words.{trail, trail-0}
use Rattle.belongs.proofs.Noted.{Room}
use Rattle.belongs.proofs.Held.{Ledger, own_of, used_of, PathIs, Held}

-- ---- zeros
zeros-long : (n : ℕ) → length (zeros n) ≡ n
unfolding zeros
zeros-long n = length-replicate n (pos 0)

-- the rows that the paths will carry
abbrev pub empty_ledger : Ledger
empty_ledger = record { own = no_rows; used = no_rows }

empty-room : (n : ℕ) → n ≤ 4 → Room n no_rows
unfolding no_rows
empty-room n n4 =
    record { four = refl; long = λ k h. ap (λ (z : List ℤ). length z) (get_or-replicate 4 k (zeros 320) [] (omega arith)) ∙ zeros-long 320 }

-- ---- all paths begun
begun-owns : (ar2 : List ℤ) (lf diff : ℤ) (lpc : List ℤ) (shape : ℤ) (seed n : ℕ) (p : Paths)
    → (begun ar2 lf diff lpc shape seed n p).owns ≡ iter (each_turn no_path (λ k o. own_from ar2 lf diff seed k)) n p.owns
unfolding begun
begun-owns ar2 lf diff lpc shape seed n p =
    iter-rel (λ j (a : Paths) (l : List Path). a.owns ≡ l) (begin_turn ar2 lf diff seed (start_lpc lpc) (start_rings shape))
    (each_turn no_path (λ k o. own_from ar2 lf diff seed k))
    n
    (λ j q a l e. ap (λ (z : List Path). set z j (own_from ar2 lf diff seed j)) e)
    p
    p.owns
    refl

begun-rings : (ar2 : List ℤ) (lf diff : ℤ) (lpc : List ℤ) (shape : ℤ) (seed n : ℕ) (p : Paths)
    → (begun ar2 lf diff lpc shape seed n p).rings ≡ iter (each_turn [] (λ k r. start_rings shape)) n p.rings
unfolding begun
begun-rings ar2 lf diff lpc shape seed n p =
    iter-rel (λ j (a : Paths) (l : List (List (List ℤ))). a.rings ≡ l) (begin_turn ar2 lf diff seed (start_lpc lpc) (start_rings shape))
    (each_turn [] (λ k r. start_rings shape))
    n
    (λ j q a l e. ap (λ (z : List (List (List ℤ))). set z j (start_rings shape)) e)
    p
    p.rings
    refl

-- one path's words and rings
own-words : (ar2 : List ℤ) (lf diff : ℤ) (seed k : ℕ)
    → ((own_from ar2 lf diff seed k).«Seed» ≡ pos ((k + seed) % 4))
    × (((own_from ar2 lf diff seed k).«SeedInit» ≡ pos ((k + seed) % 4)) × ((own_from ar2 lf diff seed k).RD_Q10 ≡ pos 0))
unfolding own_from
own-words ar2 lf diff seed k = (refl, (refl, refl))

record RingsStart (r : List (List ℤ)) : Type 0 where
  five : length r ≡ 5
  marks : get_or r ring_rand_state [] ≡ zeros 40
  levels : get_or r ring_q [] ≡ zeros 40
  preds : get_or r ring_pred [] ≡ zeros 40

rings-start : (shape : ℤ) → RingsStart (start_rings shape)
unfolding start_rings
rings-start shape = record { five = refl; marks = refl; levels = refl; preds = refl }

zero-rings : length zero_rings ≡ 4
unfolding zero_rings
zero-rings = refl

module _ (ar2 : List ℤ) (lf diff : ℤ) (lpc : List ℤ) (shape : ℤ) (seed n : ℕ) (n4 : n ≤ 4) where
  abbrev p : Paths
  p = begun ar2 lf diff lpc shape seed n (paths (replicate 4 zero_path) zero_lpcs zero_rings)

  -- path k of all
  own_at : (k : ℕ) → k < n → get_or p.owns k no_path ≡ own_from ar2 lf diff seed k
  own_at k h =
      ap (λ (z : List Path). get_or z k no_path) (begun-owns ar2 lf diff lpc shape seed n _)
      ∙ each_in no_path (λ k o. own_from ar2 lf diff seed k) n (replicate 4 zero_path) k h (omega arith)

  ring-at : (k : ℕ) → k < n → RingsStart (get_or p.rings k [])
  ring-at k h =
      subst RingsStart
      (sym
      (ap (λ (z : List (List (List ℤ))). get_or z k []) (begun-rings ar2 lf diff lpc shape seed n _)
      ∙ each_in [] (λ k r. start_rings shape) n zero_rings k h (omega (arith, zero-rings))))
      (rings-start shape)

  begun-long : (length p.owns ≡ 4) × (length p.rings ≡ 4)
  begun-long = (
    ap (λ (z : List Path). length z) (begun-owns ar2 lf diff lpc shape seed n _)
        ∙ each_long no_path (λ k o. own_from ar2 lf diff seed k) n (replicate 4 zero_path) ∙ refl,
    ap (λ (z : List (List (List ℤ))). length z) (begun-rings ar2 lf diff lpc shape seed n _)
        ∙ each_long [] (λ k r. start_rings shape) n zero_rings ∙ zero-rings,
  )

  begun-path : (o : ℤ) (own exc : ℕ → ℤ) (k : ℕ) → k < n → PathIs o 0 0 ((k + seed) % 4) own exc k p
  begun-path o own exc k h =
      let ow = own-words ar2 lf diff seed k in
      let r = ring-at k h in
      record {
        five = r.five;
        marks40 = ap (λ (z : List ℤ). length z) r.marks ∙ zeros-long 40;
        levels40 = ap (λ (z : List ℤ). length z) r.levels ∙ zeros-long 40;
        preds40 = ap (λ (z : List ℤ). length z) r.preds ∙ zeros-long 40;
        cost = subst (λ (z : ℤ). Off 0 z 0) (sym (ap (λ (z : Path). z.RD_Q10) (own_at k h) ∙ ow.1.1)) (record { is = refl });
        four = mod-lt (k + seed) (lit< tt);
        init = ap (λ (z : Path). z.«SeedInit») (own_at k h) ∙ ow.1.0;
        seed = ap (λ (z : Path). z.«Seed») (own_at k h) ∙ ow.0 ∙ sym (trail-0 (pos ((k + seed) % 4)) own);
        marks = λ y a c. absurd (omega arith);
        blank = λ y a c. ap (λ (z : List ℤ). word z (place y)) r.marks ∙ zeros-word 40 (place y);
        levels = λ y a c. absurd (omega arith);
        exact = λ y a. absurd (omega arith);
      }

-- ---- the start of a call
pub start-held : (o : ℤ) (c : Call) (out : List ℤ) → 0 < paths_of c → paths_of c ≤ 4 → Held o (paths_of c) (length out) 0 0 0 empty_ledger (start c out).run
unfolding start start_paths
start-held o c out n0 n4 =
    let s = c.state in
    let shape = word s.sLTP_shp_Q14 (4 * length_of c - 1) in
    let seed = nat_z c.settings.Seed in
    let b = begun-long s.sAR2_Q14 s.sLF_AR_shp_Q14 s.sDiff_shp_Q14 s.sLPC_Q14 shape seed (paths_of c) n4 in
    record {
      u = λ k. 0;
      j = λ k. (k + seed) % 4;
      owns4 = b.0;
      rings4 = b.1;
      room = (empty-room (paths_of c) n4, empty-room (paths_of c) n4);
      at = refl;
      paths = λ k h.
          begun-path s.sAR2_Q14 s.sLF_AR_shp_Q14 s.sDiff_shp_Q14 s.sLPC_Q14 shape seed (paths_of c) n4 o (own_of empty_ledger k)
          (used_of empty_ledger k) k h;
      living = living-start fine (paths_of c) n0 n4 (λ k h. trail (pos ((k + seed) % 4)) (own_of empty_ledger k) (suc h));
      long = refl;
      out = λ k h a y z. absurd (omega arith);
    }
