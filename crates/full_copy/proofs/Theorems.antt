-- The replaced path may as well be a full copy: for every call the outcome is the same, each word of it, and so is the report. Assumes nothing.
use Prim.Native.Nat.{ℕ, ◌+◌, ◌<◌}
use native.Mathlib.Omega.{arith}
use mathlib.Core.Path.{◌≡◌, refl, sym, ap, ◌∙◌}
use mathlib.Core.Bool.{Bool, true, false}
use mathlib.Core.List.{List}
use lib.ListN.{length}
use lib.IntN.{ℤ}
use lib.Dec.{eqb}
use borrow.Author.Tests.{eqb-true, eqb-false}
use Rattle.fixed.specs.Row.{word}
use Rattle.fixed.proofs.Iters.{either-rel}
use Rattle.refusal_rules.specs.Code.{code_of}
use Rattle.steps.specs.Among.{Rule, keeps_first, full_copy}
use Rattle.steps.specs.Call.{Call, given_of}
use Rattle.steps.specs.Entry.{taken, answered, outcome_by, outcome}
use Rattle.steps.specs.Report.{report_by, report}
use Rattle.steps.proofs.Rules.{kept-length, kept_from, full-copy-is}
use Rattle.steps.proofs.Sound.{sound-of}
use Rattle.steps.proofs.Outcomes.{outcome-is, accepted-good, accepted-by, refused-by}
use Rattle.full_copy.specs.Copy.{Copies, later}
use Rattle.full_copy.proofs.Frame.{frame-win}
use Rattle.full_copy.proofs.Carried.{frame_report-same}

-- ---- the rules that copy from word i + 1 on: the Rust's, the same one word later, and the full copy
pub keeps-first-copies : Copies keeps_first
keeps-first-copies =
    record { len = kept-length; at = λ own by i j b. kept_from own by i j (omega arith) }

pub one-later-copies : Copies (later 1)
unfolding later
one-later-copies =
    record { len = λ own by i. kept-length own by (i + 1); at = λ own by i j b. kept_from own by (i + 1) j (omega arith) }

pub full-copy-copies : Copies full_copy
full-copy-copies =
    record { len = λ own by i. ap length (full-copy-is own by i); at = λ own by i j b. ap (λ (l : List ℤ). word l j) (full-copy-is own by i) }

-- ---- an accepted call has a path
some-path : (c : Call) (x out : List ℤ) → code_of (answered c x out) ≡ 0 → 0 < (given_of c).nStates
some-path c x out e = (sound-of c (accepted-good c x out e)).paths1

-- ---- any two rules that copy from word i + 1 on: the same answer, pulses, seed and state, each word of them, for every call
pub same-by-rules : (r r' : Rule) → Copies r → Copies r' → (c : Call) (x out : List ℤ) → outcome r c x out ≡ outcome r' c x out
same-by-rules r r' g g' c x out = outcome-is r c x out ∙ go (eqb (code_of (answered c x out)) 0) refl ∙ sym (outcome-is r' c x out)
  where
    go : (b : Bool) → eqb (code_of (answered c x out)) 0 ≡ b → outcome_by r c x out (answered c x out) ≡ outcome_by r' c x out (answered c x out)
    go true e =
        let z : code_of (answered c x out) ≡ 0 = eqb-true _ _ e in
        accepted-by r c x out (answered c x out) z
        ∙ ap (taken (answered c x out)) (frame-win r r' g g' c x out (some-path c x out z))
        ∙ sym (accepted-by r' c x out (answered c x out) z)
    go false e =
        let n = eqb-false (code_of (answered c x out)) 0 e in
        let z : 0 < code_of (answered c x out) = omega arith in
        refused-by r c x out (answered c x out) z ∙ sym (refused-by r' c x out (answered c x out) z)

-- the Rust's rule and the full copy
pub full-copy : (c : Call) (x out : List ℤ) → outcome keeps_first c x out ≡ outcome full_copy c x out
full-copy c x out = same-by-rules keeps_first full_copy keeps-first-copies full-copy-copies c x out

-- the Rust's rule and the same one word later: word i doesn't count
pub one_later : (c : Call) (x out : List ℤ) → outcome keeps_first c x out ≡ outcome (later 1) c x out
one_later c x out = same-by-rules keeps_first (later 1) keeps-first-copies one-later-copies c x out

-- ---- the report of a call, which compares the pulses handed out with those that the final winner chose itself
-- by any two rules that copy from word i + 1 on
pub report-by-rules : (r r' : Rule) → Copies r → Copies r' → (c : Call) (x out : List ℤ) → report r c x out ≡ report r' c x out
unfolding report report_by
report-by-rules r r' g g' c x out =
    either-rel (λ (a b : ℕ). a ≡ b) (eqb (code_of (answered c x out)) 0) _ _ _ _
    (λ e. frame_report-same r r' g g' c x out (some-path c x out (eqb-true _ _ e)))
    (λ e. refl)

-- by the Rust's rule and the full copy
pub full-copy-report : (c : Call) (x out : List ℤ) → report keeps_first c x out ≡ report full_copy c x out
full-copy-report c x out = report-by-rules keeps_first full_copy keeps-first-copies full-copy-copies c x out
