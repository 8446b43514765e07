-- One sample keeps what holds of a frame in work: the living agree in one pulse more, and that is the one that is handed out. Assumes nothing.
use Prim.Native.Nat.{ℕ, suc, ◌+◌, ◌-◌, ◌%◌, ◌<◌, ◌≤◌}
use native.Mathlib.Omega.{arith}
use mathlib.Core.Path.{◌≡◌, refl, sym, ap, ◌∙◌, subst}
use mathlib.Core.Logic.{inl, inr}
use mathlib.Core.Bool.{Bool, true, false}
use mathlib.Core.List.{List}
use lib.ListN.{set, length}
use lib.Seq.{get_or-set_same, get_or-set_other}
use lib.Dec.{leb}
use borrow.Author.Tests.{leb-true, leb-false}
use lib.IntN.{ℤ, pos}
use mir.Syntax.{w32}
use mir.Val.{SFits}
use Rattle.fixed.specs.Iter.{either}
use Rattle.fixed.specs.Row.{word}
use Rattle.fixed.proofs.Iters.{cases, not-both, one_more}
use Rattle.noise.specs.Output.{pulse_of}
use Rattle.path.specs.declared.structs.Fix.{Fix}
use Rattle.path.specs.declared.structs.Swap.{Swap}
use Rattle.path.specs.Data.{Paths, Running, Rows}
use Rattle.places.specs.Places.{down, delayed}
use Rattle.steps.specs.Among.{Rule}
use Rattle.steps.specs.Leaving.{leaves, emit}
use Rattle.steps.specs.Turn.{took, turn}
use Rattle.steps.specs.Carried.{swap_at}
use Rattle.counts.proofs.Subframe.{bound, emit-long, turn-wrote}
use Rattle.heard.proofs.Candidates.{Tabled}
use Rattle.heard.proofs.Ring.{place, ring-next, down-ring, holds-back, place-back}
use Rattle.belongs.specs.Costs.{fine}
use Rattle.belongs.specs.Used.{source_of}
use Rattle.belongs.specs.Totals.{winner_at, mark_at}
use Rattle.belongs.proofs.Costing.{Chose, still, v-stays, v-still}
use Rattle.belongs.proofs.Living.{run-9, from-source, Marks, Leaves, After, living-next, source-alive}
use Rattle.belongs.proofs.Took.{leaves-q, after-long}
use Rattle.belongs.proofs.Offsets.{fine-enough}
use Rattle.belongs.proofs.Words.{trail, trail-fits, same-own}
use Rattle.belongs.proofs.Chosen.{pen_at, cost_at, cost_next, to_in, by_in, winner-in, chose}
use Rattle.belongs.proofs.Held.{Ledger, own_of, used_of, exact-small, mark_row, level_row, PathIs, Held, below-12}
use Rattle.belongs.proofs.Sampled.{ledger_next, src-in, ledger-room, own_old, trail-old, path-next}

-- ---- what leaves at sample i of a subframe: the word at the delay, one more than before; or nothing, while output is held back
record Emits (now : Bool) (d g e e' : ℕ) : Type 0 where
  goes : now ≡ true → (e' ≡ suc e) × ((d ≤ g) × (g - d ≡ e))
  held : now ≡ false → (e' ≡ e) × (d ≤ g → g - d < e)

emits : (first : Bool) (base d i : ℕ) → (first ≡ false → d ≤ base)
    → Emits (either first (leb d i) true) d (base + i) (bound first base d i) (bound first base d (suc i))
emits true base d i k = go (leb d i) refl
  where
    go : (b : Bool) → leb d i ≡ b → Emits b d (base + i) (base + (i - d)) (base + (suc i - d))
    go true q =
        let z = leb-true d i q in
        record { goes = λ y. (omega arith, (omega arith, omega arith)); held = λ y. not-both true refl y }
    go false q =
        let z = leb-false d i q in
        record { goes = λ y. not-both false y refl; held = λ y. (omega arith, λ w. omega arith) }
emits false base d i k =
    let z = k refl in
    record { goes = λ y. (omega arith, (omega arith, omega arith)); held = λ y. not-both true refl y }

leaves_of : (now : Bool) (d g e e' : ℕ) → Emits now d g e e' → Leaves d g e e'
leaves_of true d g e e' m = inl (m.goes refl)
leaves_of false d g e e' m = inr (m.held refl)

-- where the delay stands in the ring before that place was ever written
place-ahead : (g d : ℕ) → g < d → d ≤ 40 → (place g + d) % 40 ≡ place (g + 40 - d)
place-ahead g d h k = omega arith

ahead : (g d : ℕ) → g < d → d ≤ 40 → (g ≤ g + 40 - d) × (g + 40 - d < 40)
ahead g d h k = (omega arith, omega arith)

-- ---- sample i
module _ (rule : Rule) (f : Fix) (v : Rows) (x : List ℤ) (i : ℕ) (t : Running) {l : Ledger} {len ψ : ℕ} (n0 : 0 < f.nStates) (n4 : f.nStates ≤ 4)
    (tb : Tabled f) (d10 : 10 ≤ f.decisionDelay) (d40 : f.decisionDelay ≤ 40) (late : f.first ≡ false → f.decisionDelay ≤ f.base)
    (g320 : f.base + i < 320) (in_len : f.base + i < len)
    (s : Held f.offset_Q10 f.nStates len (f.base + i) (bound f.first f.base f.decisionDelay i) ψ l t) where
  abbrev n : ℕ
  n = f.nStates

  abbrev g : ℕ
  g = f.base + i

  abbrev d : ℕ
  d = f.decisionDelay

  abbrev e : ℕ
  e = bound f.first f.base f.decisionDelay i

  abbrev e' : ℕ
  e' = bound f.first f.base f.decisionDelay (suc i)

  abbrev p : Paths
  p = t.core.ps

  abbrev sw : Swap
  sw = swap_at f v x i t

  abbrev src : ℕ → ℕ
  src k = source_of sw k

  abbrev w : ℕ
  w = winner_at f v x i t

  abbrev l' : Ledger
  l' = ledger_next rule f v x i t l

  -- what a sample does to each path
  src-n : (k : ℕ) → k < n → src k < n
  src-n = src-in rule f v x i t n0 n4 tb g320 s

  old : (k : ℕ) → k < n → (h : ℕ) → h < g → own_of l' k h ≡ own_of l (src k) h
  old = own_old rule f v x i t n0 n4 tb g320 s

  path' : (k : ℕ) → k < n
      → PathIs f.offset_Q10 (suc g) (cost_next f v x i t g s.u k) (s.j (src k)) (own_of l' k) (used_of l' k) k (took rule f v x i t).ps
  path' = path-next rule f v x i t n0 n4 tb g320 s

  -- ---- who may still win
  choice : Chose fine n s.u (cost_at f v x i t g s.u 0) (cost_at f v x i t g s.u 1) (pen_at f v x i t) w sw.to sw.by sw.yes
  choice = chose f v x i t n0 n4 tb s.owns4 g g320 s.u (λ k h. (s.paths k h).cost) (below-12 s)

  w-n : w < n
  w-n = winner-in f v x i t n0 n4

  last-is : delayed f (down t.core.smpl_buf_idx) ≡ (place g + d) % 40
  last-is = ap (λ (z : ℕ). (z + d) % 40) (ap down s.at ∙ down-ring g)

  -- the words at the delay: none yet, or those of the sample that is d old
  marks : Marks n d g (λ k h. trail (pos (s.j k)) (own_of l k) (suc h)) (mark_at f t) (pen_at f v x i t) w
  marks =
      record {
        pens = λ k h. refl;
        early = λ q k h. zero-mark q k h ∙ sym (zero-mark q w w-n);
        late = λ q k h.
            ap (word (mark_row p k)) last-is
            ∙ holds-back (λ z. trail (pos (s.j k)) (own_of l k) (suc z)) (mark_row p k) g d (omega arith) d40 q (s.paths k h).marks;
      }
    where
      zero-mark : g < d → (k : ℕ) → k < n → mark_at f t k ≡ pos 0
      zero-mark q k h =
          let z = ahead g d q d40 in
          ap (word (mark_row p k)) (last-is ∙ place-ahead g d q d40) ∙ (s.paths k h).blank (g + 40 - d) z.0 z.1

  -- the words RandState are i32, and go with the path that is copied
  fits : (k : ℕ) → k < n → (h : ℕ) → h < g → SFits w32 (trail (pos (s.j k)) (own_of l k) (suc h))
  fits k h o q = trail-fits (pos (s.j k)) (own_of l k) o

  goes : (k : ℕ) → k < n → (h : ℕ) → h < g → trail (pos (s.j (src k))) (own_of l' k) (suc h) ≡ trail (pos (s.j (src k))) (own_of l (src k)) (suc h)
  goes k h o q = trail-old rule f v x i t n0 n4 tb g320 s k h (suc o) (omega arith)

  -- so the argument applies
  emitted : Emits (leaves f i) d g e e'
  unfolding leaves
  emitted = emits f.first f.base d i late

  leaving : Leaves d g e e'
  leaving = leaves_of (leaves f i) d g e e' emitted

  after : After fine-enough s.living choice marks d10 n4 fits (λ k h. trail (pos (s.j (src k))) (own_of l' k) (suc h)) goes e' leaving
  after = living-next fine-enough s.living choice marks d10 n4 fits (λ k h. trail (pos (s.j (src k))) (own_of l' k) (suc h)) goes e' leaving

  -- the winner stays itself, and lives
  src-w : src w ≡ w
  src-w =
      from-source (λ z y. z ≡ w) (λ k. true) sw.yes sw.to sw.by w
      (λ q z. absurd (v-stays fine-enough s.living.costing choice (run-9 s.living) n4 q (sym z))) (λ z. refl)

  w-lives : after.living.alive w ≡ true
  w-lives =
      after.alive-is w
      ∙ from-source (λ z y. y ≡ true) (still s.living.alive (pen_at f v x i t)) sw.yes sw.to sw.by w (λ q z. refl)
      (λ z. v-still fine-enough s.living.costing choice (run-9 s.living) n4)

  -- one that lives afterwards comes from one that lived
  src-lives : (k : ℕ) → k < n → after.living.alive k ≡ true → s.living.alive (src k) ≡ true
  src-lives k h q =
      source-alive fine-enough s.living choice marks d10 n4 fits (λ k h. trail (pos (s.j (src k))) (own_of l' k) (suc h)) goes e' leaving k h
      (sym (after.alive-is k) ∙ q)

  -- ---- the pulses that are out
  -- the pulse that leaves is the winner's own
  q-out : d ≤ g → pulse_of (took rule f v x i t).Q_Q10 ≡ own_of l w (g - d)
  q-out q =
      ap pulse_of
      (leaves-q rule f v x i t s.owns4 s.rings4 n4 (to_in f v x i t n0 n4) (by_in f v x i t n0 n4)
      ∙ ap (λ (z : ℕ). word (level_row p z) (delayed f (down t.core.smpl_buf_idx))) src-w
      ∙ ap (word (level_row p w)) (last-is ∙ place-back g d q d40))
      ∙ (s.paths w w-n).levels (g - d) (omega arith) (omega arith)

  -- those that live afterwards have chosen the same pulses in what is settled
  own_same : (k : ℕ) → k < n → after.living.alive k ≡ true → (h : ℕ) → h < e' → own_of l' k h ≡ own_of l' w h
  own_same k o q h z =
      let y : h < suc g = omega (arith, after.living.settled) in
      same-own (s.j (src k)) (s.j (src w)) (path' k o).four (path' w w-n).four (own_of l' k) (own_of l' w) h
      (exact-small ((path' k o).exact h y)) (exact-small ((path' w w-n).exact h y))
      (λ y r. after.living.agree k w o w-n q w-lives y (omega arith))

  out-goes : (k : ℕ) → k < n → after.living.alive k ≡ true → (h : ℕ) → h < e → word t.pulses h ≡ own_of l' k h
  out-goes k o q h z = s.out (src k) (src-n k o) (src-lives k o q) h z ∙ sym (old k o h (omega (arith, s.living.settled)))

  out' : (k : ℕ) → k < n → after.living.alive k ≡ true → (h : ℕ) → h < e' → word (turn rule f v x i t).pulses h ≡ own_of l' k h
  out' k o q h z =
      let z0 = pulse_of (took rule f v x i t).Q_Q10 in
      ap (λ (y : List ℤ). word y h) (turn-wrote rule f v x i t).out
      ∙ cases (leaves f i)
      (λ b.
      let m = emitted.goes b in
      ap (λ (y : Bool). word (emit y t.pulses (g - d) z0) h) b
      ∙ one_more (λ r. (r < e → word t.pulses r ≡ own_of l' k r) → word (set t.pulses (g - d) z0) r ≡ own_of l' k r) h e (omega (arith, m.0))
      (λ y r. get_or-set_other t.pulses (g - d) h z0 (pos 0) (λ r. omega (arith, m.1.1)) ∙ r y)
      (λ r.
      rw (← m.1.1)
      (get_or-set_same t.pulses (g - d) z0 (pos 0) (omega (arith, s.long))
      ∙ q-out m.1.0
      ∙ ap (λ (r : ℕ). own_of l r (g - d)) (sym src-w)
      ∙ sym (old w w-n (g - d) (omega (arith, m.1.0)))
      ∙ sym (own_same k o q (g - d) (omega (arith, m.0, m.1.1)))))
      (out-goes k o q h))
      (λ b. ap (λ (y : Bool). word (emit y t.pulses (g - d) z0) h) b ∙ out-goes k o q h (omega (arith, (emitted.held b).0)))

  -- ---- all of it
  pub held-turn : Held f.offset_Q10 f.nStates len (f.base + suc i) (bound f.first f.base f.decisionDelay (suc i)) ψ
      (ledger_next rule f v x i t l) (turn rule f v x i t)
  held-turn =
      let w4 = after-long rule f v x i t s.owns4 s.rings4 n4 (to_in f v x i t n0 n4) (by_in f v x i t n0 n4) in
      let wr = turn-wrote rule f v x i t in
      let next-g : suc g ≡ f.base + suc i = omega arith in
      subst (λ (z : ℕ). Held f.offset_Q10 n len z e' ψ l' (turn rule f v x i t)) next-g
      (record {
        u = cost_next f v x i t g s.u;
        j = λ k. s.j (src k);
        owns4 = ap (λ (z : Paths). length z.owns) wr.ps ∙ w4.0;
        rings4 = ap (λ (z : Paths). length z.rings) wr.ps ∙ w4.1;
        room = ledger-room rule f v x i t n0 n4 tb g320 s;
        at = wr.at ∙ ap down s.at ∙ down-ring g ∙ sym (ring-next g);
        paths = λ k h.
            subst (PathIs f.offset_Q10 (suc g) (cost_next f v x i t g s.u k) (s.j (src k)) (own_of l' k) (used_of l' k) k) (sym wr.ps) (path' k h);
        living = after.living;
        long = ap (λ (z : List ℤ). length z) wr.out ∙ emit-long (leaves f i) t.pulses (g - d) (pulse_of (took rule f v x i t).Q_Q10) ∙ s.long;
        out = out';
      })
