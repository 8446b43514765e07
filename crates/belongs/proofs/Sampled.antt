-- One sample keeps what holds of each path: its rings, its seed and its rows get the word of the candidate that it took. And the excitation that it
-- notes is the one that the run goes on with. Assumes nothing.
use Prim.Native.Nat.{ℕ, suc, ◌+◌, ◌<◌, ◌≤◌}
use native.Mathlib.Omega.{arith}
use mathlib.Core.Path.{◌≡◌, sym, ap, ◌∙◌, subst}
use mathlib.Core.Logic.{◌≢◌}
use mathlib.Core.List.{List, []}
use lib.ListN.{get_or, length, length-set}
use lib.Seq.{get_or-set_other}
use lib.IntN.{ℤ, pos, ◌+ℤ◌}
use Rattle.fixed.specs.Row.{word}
use Rattle.fixed.specs.Wrap.{wrap32}
use Rattle.fixed.specs.Shift.{shl32}
use Rattle.fixed.proofs.Iters.{one_more}
use Rattle.seeds.specs.Generator.{rand}
use Rattle.residuals.specs.Residual.{signed_excitation, seed_with}
use Rattle.noise.specs.Output.{pulse_of}
use Rattle.path.specs.declared.structs.Candidate.{Candidate}
use Rattle.path.specs.declared.structs.Fix.{Fix}
use Rattle.path.specs.declared.structs.Swap.{Swap}
use Rattle.path.specs.Data.{no_path, Paths, Running, Rows, ring_pred, ring_at}
use Rattle.places.specs.Places.{down}
use Rattle.steps.specs.Among.{Rule}
use Rattle.steps.specs.Shared.{common}
use Rattle.steps.specs.Turn.{took, turn}
use Rattle.steps.specs.Carried.{fined_at, swap_at, level_of, chosen, Note, carry_turn}
use Rattle.counts.proofs.Subframe.{turn-wrote}
use Rattle.heard.proofs.Candidates.{Fair, Level, Tabled}
use Rattle.heard.proofs.Reader.{pulse-out}
use Rattle.heard.proofs.Ring.{place, down-ring, place-apart, word-written, holds-next}
use Rattle.belongs.specs.Used.{source_of, seed_of, used}
use Rattle.belongs.proofs.Took.{cand_of, Became, source_in, became}
use Rattle.belongs.proofs.Offsets.{Off}
use Rattle.belongs.proofs.Words.{trail, trail-next, trail-same}
use Rattle.belongs.proofs.Chosen.{cost_next, to_in, by_in, fair-next, cost-next}
use Rattle.belongs.proofs.Noted.{Room, noted-room, noted-old, noted-new}
use Rattle.belongs.proofs.Held.{Ledger, own_of, used_of, Exact, mark_row, level_row, pred_row, PathIs, Held, below-12}

-- the rows after sample i, t the frame in work before it
abbrev pub ledger_next : Rule → Fix → Rows → List ℤ → ℕ → Running → Ledger → Ledger
ledger_next rule f v x i t l = record { own = carry_turn chosen rule f v x i t l.own; used = carry_turn used rule f v x i t l.used }

-- no place ahead is written
ahead_apart : (g h : ℕ) → g < h → h < 40 → place h ≢ place g
ahead_apart g h a b = λ z. omega arith

-- the pulse that is added to the seed is the one that is handed out
pub seed-with : {o q : ℤ} (r : ℤ) → Level o q → seed_with r q ≡ wrap32 (r +ℤ pulse_of q)
unfolding seed_with
seed-with r l = ap (λ (z : ℤ). wrap32 (r +ℤ z)) (l.pulse ∙ sym (pulse-out l))

module _ (rule : Rule) (f : Fix) (v : Rows) (x : List ℤ) (i : ℕ) (t : Running) (n0 : 0 < f.nStates) (n4 : f.nStates ≤ 4) (tb : Tabled f)
    (g320 : f.base + i < 320) {l : Ledger} {len e ψ : ℕ} (s : Held f.offset_Q10 f.nStates len (f.base + i) e ψ l t) where
  abbrev n : ℕ
  n = f.nStates

  abbrev g : ℕ
  g = f.base + i

  abbrev p : Paths
  p = t.core.ps

  abbrev p' : Paths
  p' = (took rule f v x i t).ps

  abbrev sw : Swap
  sw = swap_at f v x i t

  -- whose words path k has after the replacement, and the candidate that it takes
  abbrev src : ℕ → ℕ
  src k = source_of sw k

  abbrev cand : ℕ → Candidate
  cand k = cand_of (fined_at f v x i t) sw k

  -- the rows after the sample
  abbrev l' : Ledger
  l' = ledger_next rule f v x i t l

  pub src-in : (k : ℕ) → k < n → src k < n
  src-in k h = source_in rule f v x i t s.owns4 s.rings4 n4 (to_in f v x i t n0 n4) (by_in f v x i t n0 n4) k h

  -- ---- the candidate
  fair : (k : ℕ) → k < n → Fair f.offset_Q10 (rand (seed_of t (src k))) (common f v x i t).LTP_pred_Q14 (cand k)
  fair k h = fair-next f v x i t n0 n4 tb s.owns4 k h

  took_it : (k : ℕ) → k < n → Became (cand k) (place g) (src k) k p p'
  took_it k h =
      subst (λ (r : ℕ). Became (cand k) r (src k) k p p') (ap down s.at ∙ down-ring g)
      (became rule f v x i t s.owns4 s.rings4 n4 (to_in f v x i t n0 n4) (by_in f v x i t n0 n4) k h (s.paths (src k) (src-in k h)).five)

  at_place : (turn rule f v x i t).core.smpl_buf_idx ≡ place g
  at_place = (turn-wrote rule f v x i t).at ∙ ap down s.at ∙ down-ring g

  -- its level and its excitation stand in the rings after the sample
  took-level : (k : ℕ) → k < n → level_of (turn rule f v x i t) k ≡ (cand k).Q_Q10
  took-level k h =
      ap (λ (z : Paths). word (level_row z k) (turn rule f v x i t).core.smpl_buf_idx) (turn-wrote rule f v x i t).ps
      ∙ ap (word (level_row p' k)) at_place
      ∙ ap (λ (z : List ℤ). word z (place g)) (took_it k h).ring.level
      ∙ word-written (level_row p (src k)) g (cand k).Q_Q10 (s.paths (src k) (src-in k h)).levels40

  used-is : (k : ℕ) → k < n → used t sw (turn rule f v x i t) k ≡ signed_excitation (rand (seed_of t (src k))) (cand k).Q_Q10
  used-is k h = ap (signed_excitation (rand (seed_of t (src k)))) (took-level k h)

  -- what it notes as used is what the run goes on with
  pub used-goes-on : (k : ℕ) → k < n
      → ring_at (turn rule f v x i t).core.ps.rings k ring_pred (turn rule f v x i t).core.smpl_buf_idx
      ≡ shl32 (wrap32 (used t (swap_at f v x i t) (turn rule f v x i t) k +ℤ (common f v x i t).LTP_pred_Q14)) 1
  used-goes-on k h =
      ap (λ (z : Paths). word (pred_row z k) (turn rule f v x i t).core.smpl_buf_idx) (turn-wrote rule f v x i t).ps
      ∙ ap (word (pred_row p' k)) at_place
      ∙ ap (λ (z : List ℤ). word z (place g)) (took_it k h).ring.pred
      ∙ word-written (pred_row p (src k)) g (shl32 (cand k).LPC_exc_Q14 1) (s.paths (src k) (src-in k h)).preds40
      ∙ ap (λ (z : ℤ). shl32 z 1) (fair k h).exc
      ∙ ap (λ (z : ℤ). shl32 (wrap32 (z +ℤ (common f v x i t).LTP_pred_Q14)) 1) (sym (used-is k h))

  -- ---- the rows
  rows-room : (note : Note) (rows : List (List ℤ)) → Room n rows → Room n (carry_turn note rule f v x i t rows)
  unfolding carry_turn
  rows-room note rows r = noted-room g sw (note t sw (turn rule f v x i t)) r n4 (to_in f v x i t n0 n4) src-in

  pub ledger-room : Room f.nStates (carry_turn chosen rule f v x i t l.own) × Room f.nStates (carry_turn used rule f v x i t l.used)
  ledger-room = (rows-room chosen l.own s.room.0, rows-room used l.used s.room.1)

  rows-old : (note : Note) (rows : List (List ℤ)) → Room n rows → (k : ℕ) → k < n → (h : ℕ) → h < g
      → word (get_or (carry_turn note rule f v x i t rows) k []) h ≡ word (get_or rows (src k) []) h
  unfolding carry_turn
  rows-old note rows r = noted-old g sw (note t sw (turn rule f v x i t)) r n4 (to_in f v x i t n0 n4) src-in

  rows_new : (note : Note) (rows : List (List ℤ)) → Room n rows → (k : ℕ) → k < n
      → word (get_or (carry_turn note rule f v x i t rows) k []) g ≡ note t sw (turn rule f v x i t) k
  unfolding carry_turn
  rows_new note rows r = noted-new g sw (note t sw (turn rule f v x i t)) r n4 (to_in f v x i t n0 n4) src-in g320

  -- the pulses and excitations of its source, and the new ones
  pub own_old : (k : ℕ) → k < f.nStates → (h : ℕ) → h < f.base + i → own_of (ledger_next rule f v x i t l) k h ≡ own_of l (source_of (swap_at f v x i t) k) h
  own_old = rows-old chosen l.own s.room.0

  own_new : (k : ℕ) → k < n → own_of l' k g ≡ pulse_of (cand k).Q_Q10
  own_new k h = rows_new chosen l.own s.room.0 k h ∙ ap pulse_of (took-level k h)

  used-old : (k : ℕ) → k < n → (h : ℕ) → h < g → used_of l' k h ≡ used_of l (src k) h
  used-old = rows-old used l.used s.room.1

  used-new : (k : ℕ) → k < n → used_of l' k g ≡ signed_excitation (rand (seed_of t (src k))) (cand k).Q_Q10
  used-new k h = rows_new used l.used s.room.1 k h ∙ used-is k h

  -- ---- the words RandState
  -- those of a path are those of its source, as far as they go
  pub trail-old : (k : ℕ) → k < f.nStates → (h : ℕ) → h ≤ f.base + i
      → trail (pos (s.j (source_of (swap_at f v x i t) k))) (own_of (ledger_next rule f v x i t l) k) h
      ≡ trail (pos (s.j (source_of (swap_at f v x i t) k))) (own_of l (source_of (swap_at f v x i t) k)) h
  trail-old k o h q = trail-same (pos (s.j (src k))) (own_of l' k) (own_of l (src k)) h (λ y z. own_old k o y (omega arith))

  -- its seed before the sample, and after it
  seed-old : (k : ℕ) → k < n → seed_of t (src k) ≡ trail (pos (s.j (src k))) (own_of l' k) g
  seed-old k h = (s.paths (src k) (src-in k h)).seed ∙ sym (trail-old k h g (omega arith))

  seed-new : (k : ℕ) → k < n → (get_or p'.owns k no_path).«Seed» ≡ trail (pos (s.j (src k))) (own_of l' k) (suc g)
  seed-new k h =
      (took_it k h).seed
      ∙ seed-with (rand (seed_of t (src k))) (fair k h).level
      ∙ ap (λ (z : ℤ). wrap32 (rand z +ℤ pulse_of (cand k).Q_Q10)) (seed-old k h)
      ∙ ap (λ (z : ℤ). wrap32 (rand (trail (pos (s.j (src k))) (own_of l' k) g) +ℤ z)) (sym (own_new k h))
      ∙ sym (trail-next (pos (s.j (src k))) (own_of l' k) g)

  -- each pulse and its excitation are of one level
  exact-new : (k : ℕ) → k < n → Exact f.offset_Q10 (trail (pos (s.j (src k))) (own_of l' k) g) (own_of l' k g) (used_of l' k g)
  exact-new k h =
      record {
        q = (cand k).Q_Q10;
        level = (fair k h).level;
        pulse = sym (own_new k h);
        is = used-new k h ∙ ap (λ (z : ℤ). signed_excitation (rand z) (cand k).Q_Q10) (seed-old k h);
      }

  exact-old : (k : ℕ) → k < n → (h : ℕ) → h < g → Exact f.offset_Q10 (trail (pos (s.j (src k))) (own_of l' k) h) (own_of l' k h) (used_of l' k h)
  exact-old k o h z =
      let w = (s.paths (src k) (src-in k o)).exact h z in
      record {
        q = w.q;
        level = w.level;
        pulse = w.pulse ∙ sym (own_old k o h z);
        is = used-old k o h z ∙ w.is ∙ ap (λ (y : ℤ). signed_excitation (rand y) w.q) (sym (trail-old k o h (omega arith)));
      }

  -- ---- so path k after the sample
  pub path-next : (k : ℕ) → k < f.nStates
      → PathIs f.offset_Q10 (suc (f.base + i)) (cost_next f v x i t (f.base + i) s.u k)
      (s.j (source_of (swap_at f v x i t) k)) (own_of (ledger_next rule f v x i t l) k) (used_of (ledger_next rule f v x i t l) k) k (took rule f v x i t).ps
  path-next k h =
      let o = s.paths (src k) (src-in k h) in
      let b = took_it k h in
      let sd = (get_or p'.owns k no_path).«Seed» in
      record {
        five = b.ring.five;
        marks40 = ap (λ (z : List ℤ). length z) b.ring.mark ∙ length-set (mark_row p (src k)) (place g) sd ∙ o.marks40;
        levels40 = ap (λ (z : List ℤ). length z) b.ring.level ∙ length-set (level_row p (src k)) (place g) (cand k).Q_Q10 ∙ o.levels40;
        preds40 = ap (λ (z : List ℤ). length z) b.ring.pred ∙ length-set (pred_row p (src k)) (place g) (shl32 (cand k).LPC_exc_Q14 1) ∙ o.preds40;
        cost =
            subst (λ (z : ℤ). Off (suc g) z (cost_next f v x i t g s.u k)) (sym b.cost)
            (cost-next f v x i t n0 n4 tb s.owns4 g g320 s.u (λ j q. (s.paths j q).cost) (below-12 s) k h);
        four = o.four;
        init = b.init ∙ o.init;
        seed = seed-new k h;
        marks = λ y a c.
            ap (λ (z : List ℤ). word z (place y)) b.ring.mark
            ∙ holds-next (λ z. trail (pos (s.j (src k))) (own_of l' k) (suc z)) (mark_row p (src k)) g sd o.marks40 (seed-new k h)
            (λ z q r. o.marks z q r ∙ sym (trail-old k h (suc z) (omega arith)))
            y a c;
        blank = λ y a c.
            ap (λ (z : List ℤ). word z (place y)) b.ring.mark
            ∙ get_or-set_other (mark_row p (src k)) (place g) (place y) sd (pos 0) (ahead_apart g y (omega arith) c)
            ∙ o.blank y (omega arith) c;
        levels = λ y a.
            one_more (λ w. suc g ≤ w + 40 → pulse_of (word (level_row p' k) (place w)) ≡ own_of l' k w) y g a
            (λ z c.
            ap (λ (w : List ℤ). pulse_of (word w (place y))) b.ring.level
            ∙ ap pulse_of (get_or-set_other (level_row p (src k)) (place g) (place y) (cand k).Q_Q10 (pos 0) (place-apart g y z c))
            ∙ o.levels y z (omega arith)
            ∙ sym (own_old k h y z))
            (λ c.
            ap (λ (w : List ℤ). pulse_of (word w (place g))) b.ring.level
            ∙ ap pulse_of (word-written (level_row p (src k)) g (cand k).Q_Q10 o.levels40)
            ∙ sym (own_new k h));
        exact = λ y a.
            one_more (λ w. Exact f.offset_Q10 (trail (pos (s.j (src k))) (own_of l' k) w) (own_of l' k w) (used_of l' k w)) y g a (exact-old k h y)
            (exact-new k h);
      }
