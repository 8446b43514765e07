-- Demand 3, of the definition that demand 2's contracts cite: what doesn't count can't matter, and later sound can't change earlier pulses.
-- For every rule of replacement, the Rust's and any other. Assumes nothing.
use Prim.Native.Nat.{ℕ, ◌-◌, ◌<◌}
use native.Mathlib.Omega.{arith}
use mathlib.Core.Path.{◌≡◌, refl, sym, ap, ◌∙◌}
use mathlib.Core.Bool.{Bool, true, false}
use mathlib.Core.List.{List}
use lib.ListN.{length}
use lib.IntN.{ℤ}
use lib.Dec.{eqb}
use borrow.Author.Tests.{eqb-true, eqb-false}
use Rattle.fixed.specs.Row.{word}
use Rattle.steps.specs.Among.{Rule}
use Rattle.refusal_rules.specs.Code.{code_of}
use Rattle.limits.specs.Count.{nat_z}
use Rattle.steps.specs.Call.{Call, delay_of}
use Rattle.steps.specs.Entry.{Outcome, answered, outcome}
use Rattle.steps.specs.Sizes.{sizes_of}
use Rattle.steps.proofs.Outcomes.{outcome-is, accepted-by, refused-by}
use Rattle.counts.specs.Agree.{Alike, Agree, HandsOutSame, SameOutcome, Decided}
use Rattle.counts.proofs.Rows.{Below, below-refl, below_at}
use Rattle.counts.proofs.Refusals.{answer-same}
use Rattle.counts.proofs.Accepted.{ready}
use Rattle.counts.proofs.PrefixFrame.{frame-pre}
use Rattle.counts.proofs.Calls.{settled}
use Rattle.counts.proofs.Whole.{frame_same}

-- ---- the outcome by its number
outcome-answer : (rule : Rule) (c : Call) (x p : List ℤ) → (outcome rule c x p).answer ≡ answered c x p
outcome-answer rule c x p = go (eqb (code_of (answered c x p)) 0) refl
  where
    go : (b : Bool) → eqb (code_of (answered c x p)) 0 ≡ b → (outcome rule c x p).answer ≡ answered c x p
    go true e = ap (λ (o : Outcome). o.answer) (outcome-is rule c x p ∙ accepted-by rule c x p (answered c x p) (eqb-true _ _ e))
    go false e =
        let n = eqb-false (code_of (answered c x p)) 0 e in
        ap (λ (o : Outcome). o.answer) (outcome-is rule c x p ∙ refused-by rule c x p (answered c x p) (omega arith))

-- ---- first half, the number: calls that agree in what counts get the same answer, refused calls of every number too
pub same_number : (rule : Rule) (c d : Call) (x y p q : List ℤ) → Agree c x p d y q
    → code_of (outcome rule c x p).answer ≡ code_of (outcome rule d y q).answer
same_number rule c d x y p q h =
    ap code_of (outcome-answer rule c x p ∙ answer-same c d x y p q h ∙ sym (outcome-answer rule d y q))

-- ---- first half, all of it: where the number is 0, pulses, seed and every word of the state that counts are the same
handed : (rule : Rule) (c d : Call) (x y p q : List ℤ) → Agree c x p d y q → code_of (answered c x p) ≡ 0
    → HandsOutSame (nat_z c.settings.subfr_length) (outcome rule c x p) (outcome rule d y q)
handed rule c d x y p q h e =
    let a = answer-same c d x y p q h in
    let z = frame_same c d x y p q h (ready c x p e) rule in
    rw (outcome-is rule c x p, outcome-is rule d y q, ← a, accepted-by rule c x p (answered c x p) e, accepted-by rule d y q (answered c x p) e)
    (record { pulses = z.pulses; seed = z.seed; state = rw (settled c).length at z.state; lagPrev = z.lagPrev })

pub same_outcome : (rule : Rule) (c d : Call) (x y p q : List ℤ) → Agree c x p d y q
    → SameOutcome (nat_z c.settings.subfr_length) (outcome rule c x p) (outcome rule d y q)
same_outcome rule c d x y p q h =
    record {
      answer = outcome-answer rule c x p ∙ answer-same c d x y p q h ∙ sym (outcome-answer rule d y q);
      hands_out = λ e. handed rule c d x y p q h (ap code_of (sym (outcome-answer rule c x p)) ∙ e);
    }

-- ---- second half
-- samples of one length get the same number
number-by-length : (c : Call) (x y p : List ℤ) → length x ≡ length y → answered c x p ≡ answered c y p
unfolding answered sizes_of
number-by-length c x y p e = rw e refl

prefix-below : (rule : Rule) (c : Call) (x y p : List ℤ) (t : ℕ) → Alike t x y → Below (t - delay_of c) (outcome rule c x p).pulses (outcome rule c y p).pulses
prefix-below rule c x y p t h = go (eqb (code_of (answered c x p)) 0) refl
  where
    a : answered c y p ≡ answered c x p
    a = sym (number-by-length c x y p h.long)

    go : (b : Bool) → eqb (code_of (answered c x p)) 0 ≡ b → Below (t - delay_of c) (outcome rule c x p).pulses (outcome rule c y p).pulses
    go true e =
        let z : code_of (answered c x p) ≡ 0 = eqb-true _ _ e in
        rw (outcome-is rule c x p, outcome-is rule c y p, a, accepted-by rule c x p (answered c x p) z, accepted-by rule c y p (answered c x p) z)
        (frame-pre rule c x y p t h.words (ready c x p z).sound)
    go false e =
        let n = eqb-false (code_of (answered c x p)) 0 e in
        let z : 0 < code_of (answered c x p) = omega arith in
        rw (outcome-is rule c x p, outcome-is rule c y p, a, refused-by rule c x p (answered c x p) z, refused-by rule c y p (answered c x p) z)
        (below-refl _ _)

-- two calls that differ only in samples from t on: every pulse at a place i with i + D < t is equal, D the decision delay
pub prefix : (rule : Rule) (c : Call) (x y p : List ℤ) (t : ℕ) → Alike t x y → (i : ℕ) → Decided (delay_of c) t i
    → word (outcome rule c x p).pulses i ≡ word (outcome rule c y p).pulses i
prefix rule c x y p t h i k = below_at (prefix-below rule c x y p t h) i (omega arith)

-- both halves at once: accepted calls that agree in what counts but for samples from t on
pub prefix-of-agreeing : (rule : Rule) (c d : Call) (x y p q : List ℤ) (t : ℕ) → Agree c x p d x q → Alike t x y → code_of (outcome rule c x p).answer ≡ 0
    → (i : ℕ) → Decided (delay_of d) t i → word (outcome rule c x p).pulses i ≡ word (outcome rule d y q).pulses i
prefix-of-agreeing rule c d x y p q t h a e i k =
    ap (λ (l : List ℤ). word l i) ((same_outcome rule c d x x p q h).hands_out e).pulses ∙ prefix rule d x y q t a i k
