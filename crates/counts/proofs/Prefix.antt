-- What comes from sample t on changes no pulse below t less the delay: each step of a frame keeps that. Assumes nothing.
use Prim.Native.Nat.{ℕ, suc, ◌+◌, ◌-◌, ◌*◌, ◌<◌, ◌≤◌}
use native.Mathlib.Omega.{arith}
use mathlib.Core.Path.{◌≡◌, refl, sym, ap, ◌∙◌, subst}
use mathlib.Core.Bool.{Bool, true, false}
use mathlib.Core.List.{List}
use lib.Dec.{leb}
use borrow.Author.Tests.{leb-true, leb-false}
use lib.IntN.{ℤ}
use Rattle.noise.specs.Output.{pulse_of}
use Rattle.path.specs.declared.structs.Fix.{Fix}
use Rattle.fixed.specs.Row.{word}
use Rattle.path.specs.Data.{Running, Rows}
use Rattle.steps.specs.Among.{Rule}
use Rattle.steps.specs.Subframe.{move_back, subframe}
use Rattle.steps.specs.Turn.{took, put, turn}
use Rattle.steps.specs.Leaving.{leaves, emit}
use Rattle.steps.specs.Frame.{Framed, Whitened, coded, step}
use Rattle.counts.proofs.Rows.{Below, below-refl, below-past}
use Rattle.counts.proofs.Sample.{rows_refl}
use Rattle.counts.proofs.Subframe.{took-same, wrote, turn_is, moved_back, subframe-rel}
use Rattle.counts.proofs.Before.{before-past}
use Rattle.counts.proofs.Step.{coded-is, before_it, step_is}

-- two states of a frame after g samples: equal as long as all of them stand before t, and their pulses are equal below b
pub record Pre {A : Type 0} (pulses : A → List ℤ) (b t g : ℕ) (r s : A) : Type 0 where
  pub same : g ≤ t → r ≡ s
  pub out : Below b (pulses r) (pulses s)

-- equal states have equal pulses
eq-out : {A : Type 0} (pulses : A → List ℤ) {b : ℕ} {r s : A} → r ≡ s → Below b (pulses r) (pulses s)
eq-out {A} pulses {b} {r} e = subst (λ (z : A). Below b (pulses r) (pulses z)) e (below-refl b (pulses r))

-- a step to g' samples: what it does before t, and what it writes past t
pub pre-step : {A B : Type 0} (p : A → List ℤ) (q : B → List ℤ) (F G : A → B) {b t g g' : ℕ} {r s : A} → g ≤ g'
    → (g' ≤ t → r ≡ s → F r ≡ G s) → (t < g' → Below b (p r) (p s) → Below b (q (F r)) (q (G s)))
    → Pre p b t g r s → Pre q b t g' (F r) (G s)
pre-step p q F G {b} {t} {g} {g'} {r} {s} le e h k = record { same = λ z. e z (k.same (omega arith)); out = go (leb g' t) refl }
  where
    go : (c : Bool) → leb g' t ≡ c → Below b (q (F r)) (q (G s))
    go true c = let z = leb-true g' t c in eq-out q (e z (k.same (omega arith)))
    go false c = h (leb-false g' t c) k.out

-- a word written at b or later keeps rows that are equal below b
pub emit-past : (now : Bool) {b : ℕ} {r s : List ℤ} (p : ℕ) (v w : ℤ) → b ≤ p → Below b r s → Below b (emit now r p v) (emit now s p w)
emit-past true p v w h a = below-past a p v w h
emit-past false p v w h a = a

-- the pulses of each kind of state
-- of a subframe in work
abbrev pub run_out : Running → List ℤ
run_out t = t.pulses

abbrev white_out : Whitened → List ℤ
white_out w = w.run.pulses

-- the pulses of a frame in work, between subframes
abbrev pub frame_out : Framed → List ℤ
frame_out t = t.run.pulses

-- ---- a subframe, by its scalars f and rows v, on the samples x and y that are equal below t
module _ (rule : Rule) (f : Fix) (v : Rows) (ten : 10 ≤ f.predictLPCOrder) (one : 1 ≤ f.shapingLPCOrder) (x y : List ℤ) (t : ℕ) (eq : (j : ℕ) → j < t → word x j ≡ word y j) where
  turn-eq : (i : ℕ) → f.base + i < t → (r s : Running) → r ≡ s → turn rule f v x i r ≡ turn rule f v y i s
  turn-eq i h r s e =
      ap (turn rule f v x i) e
      ∙ turn_is rule f v x i s
      ∙ ap (λ z. put f i z s) (took-same rule f v v (rows_refl f v ten one) x y i (eq (f.base + i) h) s s refl (λ ltp. refl))
      ∙ sym (turn_is rule f v y i s)

  turn-out : (i : ℕ) {b : ℕ} → b ≤ f.base + i - f.decisionDelay → (r s : Running) → Below b r.pulses s.pulses
      → Below b (turn rule f v x i r).pulses (turn rule f v y i s).pulses
  turn-out i h r s a =
      rw (turn_is rule f v x i r, turn_is rule f v y i s, (wrote f i (took rule f v x i r) r).out, (wrote f i (took rule f v y i s) s).out)
      (emit-past (leaves f i) (f.base + i - f.decisionDelay) (pulse_of (took rule f v x i r).Q_Q10) (pulse_of (took rule f v y i s).Q_Q10) h a)

  turn-pre : (i : ℕ) (r s : Running) → Pre run_out (t - f.decisionDelay) t (f.base + i) r s
      → Pre run_out (t - f.decisionDelay) t (f.base + suc i) (turn rule f v x i r) (turn rule f v y i s)
  turn-pre i r s k =
      pre-step run_out run_out (turn rule f v x i) (turn rule f v y i) (omega arith) (λ z e. turn-eq i (omega arith) r s e) (λ z a. turn-out i (omega arith) r s a) k

  back-pre : {b g : ℕ} (r s : Running) → Pre run_out b t g r s → Pre run_out b t g (move_back f r) (move_back f s)
  back-pre r s k =
      pre-step run_out run_out (move_back f) (move_back f) (omega arith) (λ z e. ap (move_back f) e) (λ z a. rw ((moved_back f r).out, (moved_back f s).out) a) k

  samples-pre : (r s : Running) → Pre run_out (t - f.decisionDelay) t f.base r s
      → Pre run_out (t - f.decisionDelay) t (f.base + f.subfr_length) (subframe rule f v x r) (subframe rule f v y s)
  samples-pre r s k =
      let a : f.base ≡ f.base + 0 = omega arith in
      subframe-rel (λ i. Pre run_out (t - f.decisionDelay) t (f.base + i)) (Pre run_out (t - f.decisionDelay) t (f.base + f.subfr_length)) rule f v v x y
      (λ i h r s. turn-pre i r s) (λ r s. back-pre r s) r s (rw a at k)

  coded-pre : (r s : Whitened) → Pre white_out (t - f.decisionDelay) t f.base r s
      → Pre frame_out (t - f.decisionDelay) t (f.base + f.subfr_length) (coded rule f v x r) (coded rule f v y s)
  coded-pre r s k =
      let q = samples-pre r.run s.run (record { same = λ z. ap (λ (w : Whitened). w.run) (k.same z); out = k.out }) in
      rw (coded-is rule f v x r, coded-is rule f v y s)
      (record {
        same = λ z. let e : r ≡ s = k.same (omega arith) in rw (q.same z, ap (λ (w : Whitened). w.sLTP) e) refl;
        out = q.out;
      })

  pub step-pre : (again rewhite : Bool) (gain1 inv : ℤ) → (again ≡ true → f.base ≤ 2 * f.subfr_length) → (r s : Framed) → Pre frame_out (t - f.decisionDelay) t f.base r s
      → Pre frame_out (t - f.decisionDelay) t (f.base + f.subfr_length) (step rule f v x again rewhite gain1 inv r) (step rule f v y again rewhite gain1 inv s)
  step-pre again rewhite gain1 inv two r s k =
      rw (step_is rule f v x again rewhite gain1 inv r, step_is rule f v y again rewhite gain1 inv s)
      (coded-pre (before_it f v again rewhite gain1 inv r) (before_it f v again rewhite gain1 inv s)
      (pre-step frame_out white_out (before_it f v again rewhite gain1 inv) (before_it f v again rewhite gain1 inv) (omega arith) (λ z e. ap (before_it f v again rewhite gain1 inv) e)
      (λ z a. before-past again rewhite f v.a gain1 inv r.prev_gain_Q16 s.prev_gain_Q16 r.run s.run r.sLTP s.sLTP (λ c. let w = two c in omega arith) a) k))
