-- A whole frame: what holds between two samples holds at every sample of an accepted call, so the pulses that are handed out are the final winner's own.
-- Assumes nothing.
use Prim.Native.Nat.{ℕ, zero, suc, ◌+◌, ◌-◌, ◌*◌, ◌<◌, ◌≤◌}
use native.Mathlib.Omega.{arith}
use native.Mathlib.Nat.{suc-mul}
use mathlib.Core.Path.{◌≡◌, refl, sym, subst}
use mathlib.Core.Bool.{Bool, true, false}
use mathlib.Core.List.{List}
use lib.Dec.{eqb}
use lib.IntN.{ℤ, pos}
use mir.Syntax.{w32}
use mir.Val.{SFits}
use Rattle.fixed.specs.Iter.{iter, either}
use Rattle.fixed.specs.Row.{word}
use Rattle.fixed.proofs.Iters.{cases}
use Rattle.refusal_rules.specs.Code.{code_of}
use Rattle.refusal_rules.proofs.Room.{subframe-within}
use Rattle.path.specs.declared.structs.Fix.{Fix}
use Rattle.path.specs.Data.{Running}
use Rattle.steps.specs.Among.{Rule}
use Rattle.steps.specs.Flush.{best_of, fit_last}
use Rattle.steps.specs.Call.{Call, given_of, length_of, count_of, paths_of, delay_of, second, rewhites, since, fix_by, fix_of, rows_of, white_gain}
use Rattle.steps.specs.Frame.{middle_by, flushed_first, before, prior_by, run, ended_by, frame}
use Rattle.steps.specs.Entry.{answered}
use Rattle.steps.specs.Carried.{Note, chosen, carried_in, carry_step, carry_by, carried_by, carried_of}
use Rattle.steps.specs.Report.{winners_row, winners_own}
use Rattle.steps.proofs.Outcomes.{accepted-good}
use Rattle.steps.proofs.Sound.{delay-13, second_is}
use Rattle.counts.proofs.Before.{Stands}
use Rattle.counts.proofs.Place.{stands, behind, ends}
use Rattle.counts.proofs.Accepted.{Ready, ready}
use Rattle.heard.specs.Inside.{opened, at_sample}
use Rattle.heard.proofs.Passes.{subframe-opens, sample-next, subframe-closes}
use Rattle.heard.proofs.Between.{Midway}
use Rattle.heard.proofs.Accepted.{frame-320, tabled, midway}
use Rattle.heard.proofs.Trace.{out_at, after}
use Rattle.belongs.specs.Used.{used, winners_used}
use Rattle.belongs.proofs.Words.{trail}
use Rattle.belongs.proofs.Held.{Ledger, Exact, Held}
use Rattle.belongs.proofs.Sampled.{ledger_next}
use Rattle.belongs.proofs.Turn.{held-turn}
use Rattle.belongs.proofs.Between.{held_back, held-white, held-regained}
use Rattle.belongs.proofs.Flush.{held-middle, best-of, flush-filled}
use Rattle.belongs.proofs.Start.{empty_ledger, start-held}

-- ---- all that comes before the samples of a subframe
held-flushed : {o : ℤ} {len ψ : ℕ} {l : Ledger} (again rewhite : Bool) (f : Fix) (gain1 : ℤ) (t : Running) → 0 < f.nStates → f.nStates ≤ 4
    → {g b0 b1 : ℕ} → Stands again rewhite f b0 b1 → Midway again f len g → g ≤ 320 → (again ≡ true → ψ ≡ 0)
    → Held o f.nStates len g b0 ψ l t → Held o f.nStates len g b1 (either again 10 ψ) l (flushed_first again f gain1 t)
unfolding flushed_first
held-flushed {o} {len} {ψ} {l} true rewhite f gain1 t n0 n4 {g} {b0} {b1} z y g320 none s =
    let m = f.subfr_length in
    let d = f.decisionDelay in
    let s1 = subst (λ (q : ℕ). Held o f.nStates len q b0 ψ l t) (y.two refl) s in
    let s2 = subst (λ (q : ℕ). Held o f.nStates len (2 * m) q ψ l t) (z.flush0 refl) s1 in
    let s3 = subst (λ (q : ℕ). Held o f.nStates len (2 * m) (2 * m - d) q l t) (none refl) s2 in
    let r = held-middle m d gain1 t n0 n4 z.short y.few (y.within refl) (omega (arith, y.two refl)) s3 in
    let r1 = subst (λ (q : ℕ). Held o f.nStates len (2 * m) q 10 l (middle_by f.nStates m d gain1 t)) (sym (z.flush1 refl)) r in
    subst (λ (q : ℕ). Held o f.nStates len q b1 10 l (middle_by f.nStates m d gain1 t)) (sym (y.two refl)) r1
held-flushed {o} {len} {ψ} {l} false rewhite f gain1 t n0 n4 {g} {b0} {b1} z y g320 none s =
    subst (λ (q : ℕ). Held o f.nStates len g q ψ l t) (z.stays refl) s

held-before : {o : ℤ} {len ψ : ℕ} {l : Ledger} (again rewhite : Bool) (f : Fix) (a : List ℤ) (gain1 inv prev : ℤ) (t : Running) (row : List ℤ)
    → 0 < f.nStates → f.nStates ≤ 4 → {g b0 b1 : ℕ} → Stands again rewhite f b0 b1 → Midway again f len g → g ≤ 320 → (again ≡ true → ψ ≡ 0)
    → Held o f.nStates len g b0 ψ l t → Held o f.nStates len g b1 (either again 10 ψ) l (before again rewhite f a gain1 inv prev t row).run
unfolding before
held-before again rewhite f a gain1 inv prev t row n0 n4 z y g320 none s =
    held-regained f rewhite prev _ n4 (held-white rewhite f a inv _ row (held-flushed again rewhite f gain1 t n0 n4 z y g320 none s))

-- how many fines there may be from before the flush in the middle, when k subframes are done
pub fines_at : Call → ℕ → ℕ
fines_at c k = iter (λ j ψ. either (second c j) 10 ψ) k 0

fines-next : (c : Call) (k : ℕ) → fines_at c (suc k) ≡ either (second c k) 10 (fines_at c k)
unfolding fines_at
fines-next c k = refl

-- none at the flush: it is the only one
fines-none : (c : Call) (k : ℕ) → second c k ≡ true → fines_at c k ≡ 0
unfolding fines_at
fines-none c k e = rw ((second_is (given_of c) k e).0, never 1 (λ z. omega arith), never 0 (λ z. omega arith)) refl
  where
    never : (j : ℕ) → (j ≡ 2 → ⊥) → second c j ≡ false
    never j h = cases (second c j) (λ z. absurd (h (second_is (given_of c) j z).0)) (λ z. z)

-- ---- the rows, sample by sample
-- those of a note before sample i of subframe k
rows_at : Note → Rule → Call → List ℤ → List ℤ → ℕ → ℕ → List (List ℤ)
rows_at note rule c x out k i = carried_in note rule (fix_of c k) (rows_of c k) x (opened c k (after rule c x out k)) i (carried_of note rule c x out k)

pub ledger_at : Rule → Call → List ℤ → List ℤ → ℕ → ℕ → Ledger
ledger_at rule c x out k i = record { own = rows_at chosen rule c x out k i; used = rows_at used rule c x out k i }

-- and after k subframes
abbrev pub ledger_after : Rule → Call → List ℤ → List ℤ → ℕ → Ledger
ledger_after rule c x out k = record { own = carried_of chosen rule c x out k; used = carried_of used rule c x out k }

module _ (rule : Rule) (c : Call) (x out : List ℤ) where
  -- they begin empty, stay as they are when a subframe opens, and get one word at each sample
  rows_start : ledger_after rule c x out 0 ≡ empty_ledger
  unfolding carried_by
  rows_start = refl

  rows-open : (k : ℕ) → ledger_at rule c x out k 0 ≡ ledger_after rule c x out k
  unfolding ledger_at rows_at carried_in
  rows-open k = refl

  rows_next : (k i : ℕ) → ledger_at rule c x out k (suc i) ≡ ledger_next rule (fix_of c k) (rows_of c k) x i (at_sample rule c x out k i) (ledger_at rule c x out k i)
  unfolding ledger_at rows_at carried_in at_sample
  rows_next k i = refl

  rows-close : (k : ℕ) → ledger_after rule c x out (suc k) ≡ ledger_at rule c x out k (length_of c)
  unfolding ledger_at rows_at carried_by carry_by carry_step prior_by fix_by
  rows-close k = refl

-- ---- all samples of an accepted call
module _ (rule : Rule) (c : Call) (x out : List ℤ) (a : code_of (answered c x out) ≡ 0) (fit : SFits w32 c.settings.Lambda_Q10) where
  abbrev len : ℕ
  len = count_of c * length_of c

  abbrev offset : ℤ
  offset = (given_of c).offset_Q10

  r : Ready c x out
  r = ready c x out a

  -- when k subframes are done
  HeldTo : ℕ → Type 0
  HeldTo k =
      Held offset (paths_of c) len (k * length_of c) (k * length_of c - delay_of c) (fines_at c k) (ledger_after rule c x out k) (after rule c x out k).run

  -- before sample i of subframe k
  HeldAt : ℕ → ℕ → Type 0
  HeldAt k i = Held offset (paths_of c) len (k * length_of c + i) (out_at c k i) (fines_at c (suc k)) (ledger_at rule c x out k i) (at_sample rule c x out k i)

  -- a subframe opens, a sample is coded, a subframe closes
  held-open : (k : ℕ) → k < count_of c → HeldTo k → HeldAt k 0
  unfolding HeldTo HeldAt fix_by
  held-open k h s =
      let t = after rule c x out k in
      let z : k * length_of c ≡ k * length_of c + 0 = omega arith in
      let y : Held offset (paths_of c) len (k * length_of c) (out_at c k 0) (either (second c k) 10 (fines_at c k)) (ledger_after rule c x out k) (opened c k t) =
      held-before (second c k) (rewhites c k) (fix_of c k) (rows_of c k).a (word c.Gains_Q16 1) (white_gain c k) t.prev_gain_Q16 t.run t.sLTP
      r.sound.paths1 r.sound.paths4 (stands (given_of c) c.pitchL c.LF_shp_Q14 c.Gains_Q16 k r.sound.delay_short) (midway c x out a k h)
      (omega (arith, subframe-within (length_of c) h, frame-320 c x out a)) (fines-none c k) s in
      rw (fines-next c k, rows-open rule c x out k, subframe-opens rule c x out k, ← z) y

  held-sample : (k i : ℕ) → k < count_of c → i < length_of c → HeldAt k i → HeldAt k (suc i)
  unfolding HeldAt fix_by
  held-sample k i h l s =
      let b = behind (given_of c) c.pitchL c.LF_shp_Q14 c.Gains_Q16 k r.sound (r.early k h) in
      let g = accepted-good c x out a in
      let q = subframe-within (length_of c) h in
      rw (rows_next rule c x out k i, sample-next rule c x out k i)
      (held-turn rule (fix_of c k) (rows_of c k) x i (at_sample rule c x out k i) r.sound.paths1 r.sound.paths4 (tabled c x out a fit k)
      (omega (arith, delay-13 g.settings g.lag)) r.sound.delay40 b.late (omega (arith, frame-320 c x out a)) (omega arith) s)

  held-samples : (k : ℕ) → k < count_of c → HeldTo k → (i : ℕ) → i ≤ length_of c → HeldAt k i
  held-samples k h s zero l = held-open k h s
  held-samples k h s (suc i) l = held-sample k i h (omega arith) (held-samples k h s i (omega arith))

  held-close : (k : ℕ) → k < count_of c → HeldTo k → HeldTo (suc k)
  unfolding HeldTo HeldAt
  held-close k h s =
      let g = k * length_of c + length_of c in
      let z : HeldAt k (length_of c) = held-samples k h s (length_of c) (omega arith) in
      let y = held_back (fix_of c k) (at_sample rule c x out k (length_of c)) z in
      let e : out_at c k (length_of c) ≡ g - delay_of c = ends (eqb (since c k) 0) (k * length_of c) (delay_of c) (length_of c) r.sound.delay_short in
      rw (rows-close rule c x out k, subframe-closes rule c x out k, suc-mul k (length_of c), ← e) y

  -- so it holds from the start to the end
  held_start : HeldTo 0
  unfolding HeldTo fines_at
  held_start =
      let z : 0 * length_of c ≡ 0 = omega arith in
      let y : 0 - delay_of c ≡ 0 = omega arith in
      rw (rows_start rule c x out, z, y, ← r.pulses) (start-held offset c out r.sound.paths1 r.sound.paths4)

  held_to : (k : ℕ) → k ≤ count_of c → HeldTo k
  held_to zero h = held_start
  held_to (suc k) h = held-close k (omega arith) (held_to k (omega arith))

  -- when k subframes are done, and before sample i of subframe k
  pub held_after : (k : ℕ) → k ≤ count_of c
      → Held (given_of c).offset_Q10 (paths_of c) (count_of c * length_of c) (k * length_of c) (k * length_of c - delay_of c) (fines_at c k)
      (ledger_after rule c x out k) (after rule c x out k).run
  unfolding HeldTo
  held_after = held_to

  pub held_at : (k i : ℕ) → k < count_of c → i < length_of c
      → Held (given_of c).offset_Q10 (paths_of c) (count_of c * length_of c) (k * length_of c + i) (out_at c k i) (fines_at c (suc k)) (ledger_at rule c x out k i)
      (at_sample rule c x out k i)
  unfolding HeldAt
  held_at k i h l = held-samples k h (held_to k (omega arith)) i (omega arith)

  -- ---- the end: the cheapest path lives, so the pulses that are out are its own, and the last flush hands out the rest
  -- the winner began with seed j, which is handed out, and has its own pulses and the excitation that it used behind it
  pub record Belongs : Type 0 where
    pub j : ℕ
    pub four : j < 4
    pub seed : (frame rule c x out).seed ≡ pos j
    pub pulses : (h : ℕ) → h < count_of c * length_of c → word (frame rule c x out).pulses h ≡ word (winners_own rule c x out) h
    pub exact : (h : ℕ) → h < count_of c * length_of c
        → Exact (given_of c).offset_Q10 (trail (pos j) (λ i. word (winners_own rule c x out) i) h) (word (winners_own rule c x out) h)
        (word (winners_used rule c x out) h)

  pub frame-belongs : Belongs
  unfolding HeldTo frame run ended_by winners_row
  frame-belongs =
      let t = after rule c x out (count_of c) in
      let s : HeldTo (count_of c) = held_to (count_of c) (omega arith) in
      let b = best_of t.run.core.ps.owns (paths_of c) in
      let bo = best-of s r.sound.paths1 in
      let p = s.paths b bo.in-n in
      let n : length_of c ≤ len = omega (arith, subframe-within {k = 0} {n = count_of c} (length_of c) (omega (arith, r.sound.some))) in
      let f =
      flush-filled (delay_of c) s b bo.in-n bo.lives (omega (arith, r.sound.delay_short)) r.sound.delay40 (omega arith) (length_of c)
      (fit_last (word c.Gains_Q16 (count_of c - 1))) in
      record { j = s.j b; four = p.four; seed = p.init; pulses = f.1; exact = p.exact }
