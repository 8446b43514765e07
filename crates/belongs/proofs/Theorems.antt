-- The pulses that an accepted call hands out are those that the final winner chose, whatever the number of paths: the report of every call is 0. And the
-- far end hears what the winner meant. For every rule of replacement; Lambda is an i32 (the code has no other). Assumes nothing.
use Prim.Native.Nat.{ℕ, zero, suc, ◌*◌, ◌<◌, ◌≤◌}
use native.Mathlib.Omega.{arith}
use native.Mathlib.Nat.{mul-le-mul_right}
use mathlib.Core.Path.{◌≡◌, refl, sym, ap, ◌∙◌, subst}
use mathlib.Core.Bool.{true}
use mathlib.Core.List.{List}
use lib.ListN.{get_or}
use lib.IntN.{ℤ, pos, ◌+ℤ◌, ◌*ℤ◌}
use lib.Dec.{eqb}
use borrow.Author.Tests.{eqb-true}
use mir.Syntax.{w32}
use mir.Val.{SFits}
use Rattle.fixed.specs.Iter.{iter}
use Rattle.fixed.specs.Row.{word}
use Rattle.fixed.specs.Wrap.{wrap32}
use Rattle.fixed.specs.Shift.{shl32}
use Rattle.fixed.proofs.Iters.{either-all}
use Rattle.choice.proofs.Rfc.{offset-is-rfc}
use Rattle.rfc6716.proofs.Offsets.{offset-range}
use Rattle.excitation.specs.Reading.{heard_row}
use Rattle.excitation.proofs.Accepted.{seed-word}
use Rattle.limits.specs.Count.{nat_z, same_z}
use Rattle.limits.proofs.Laws.{same_refl}
use Rattle.refusal_rules.specs.Code.{code_of}
use Rattle.refusal_rules.proofs.Room.{subframe-within}
use Rattle.path.specs.Data.{no_path, ring_pred, ring_at}
use Rattle.path.specs.Taken.{penalty}
use Rattle.steps.specs.Among.{Rule}
use Rattle.steps.specs.Shared.{common}
use Rattle.steps.specs.Call.{Call, length_of, count_of, paths_of, fix_by, fix_of, rows_of}
use Rattle.steps.specs.Frame.{start, subframe_turn, frame}
use Rattle.steps.specs.Entry.{Outcome, answered, outcome, taken}
use Rattle.steps.specs.Carried.{swap_at}
use Rattle.steps.specs.Report.{differ, winners_own, frame_report, report_by, report}
use Rattle.steps.proofs.Outcomes.{outcome-is, accepted-by}
use Rattle.counts.specs.Agree.{Agree}
use Rattle.counts.proofs.Accepted.{ready}
use Rattle.heard.specs.Inside.{at_sample}
use Rattle.heard.specs.Heard.{heard_at}
use Rattle.heard.proofs.Passes.{sample-next}
use Rattle.heard.proofs.Accepted.{kinds-in-range, frame-320, pulses-long, tabled}
use Rattle.heard.proofs.Theorems.{rfc_offset, fix-offset}
use Rattle.belongs.specs.Used.{used, winners_used}
use Rattle.belongs.specs.Totals.{SummedAt}
use Rattle.belongs.proofs.Words.{trail}
use Rattle.belongs.proofs.Held.{Exact}
use Rattle.belongs.proofs.Sampled.{used-goes-on}
use Rattle.belongs.proofs.Totals.{summed_at, raised_at}
use Rattle.belongs.proofs.Frame.{held_after, held_at, frame-belongs}
use Rattle.belongs.proofs.FarEnd.{read-own}

-- ---- the pulses belong to the winner
accepted-out : (rule : Rule) (c : Call) (x out : List ℤ) → code_of (answered c x out) ≡ 0 → outcome rule c x out ≡ taken (answered c x out) (frame rule c x out)
accepted-out rule c x out e = outcome-is rule c x out ∙ accepted-by rule c x out (answered c x out) e

-- at every place of the frame the pulse handed out is the one that the final winner chose there
pub belongs : (rule : Rule) (c : Call) (x out : List ℤ) → code_of (answered c x out) ≡ 0 → SFits w32 c.settings.Lambda_Q10
    → (h : ℕ) → h < count_of c * length_of c → word (outcome rule c x out).pulses h ≡ word (winners_own rule c x out) h
belongs rule c x out e fit h q =
    ap (λ (z : Outcome). word z.pulses h) (accepted-out rule c x out e) ∙ (frame-belongs rule c x out e fit).pulses h q

-- ---- so the report is 0
same-words : {a b : ℤ} → a ≡ b → same_z a b ≡ true
same-words {a} e = subst (λ (z : ℤ). same_z a z ≡ true) e (same_refl a)

differ-0 : (s t : List ℤ) (n : ℕ) → ((h : ℕ) → h < n → word s h ≡ word t h) → differ s t n ≡ 0
unfolding differ
differ-0 s t zero f = refl
differ-0 s t (suc n) f = rw (same-words (f n (omega arith)), differ-0 s t n (λ h q. f h (omega arith))) refl

-- the report of every call, accepted or refused
pub report-0 : (rule : Rule) (c : Call) (x out : List ℤ) → SFits w32 c.settings.Lambda_Q10 → report rule c x out ≡ 0
unfolding report report_by frame_report
report-0 rule c x out fit =
    either-all (λ m. m ≡ 0) (eqb (code_of (answered c x out)) 0) (frame_report rule c x out) 0
    (λ e.
    differ-0 (frame rule c x out).pulses (winners_own rule c x out) (count_of c * length_of c)
    (frame-belongs rule c x out (eqb-true (code_of (answered c x out)) 0 e) fit).pulses)
    (λ e. refl)

-- calls that agree in what counts have the same report
pub same-report : (rule : Rule) (c d : Call) (x y p q : List ℤ) → Agree c x p d y q → SFits w32 c.settings.Lambda_Q10
    → report rule c x p ≡ report rule d y q
same-report rule c d x y p q h fit = report-0 rule c x p fit ∙ sym (report-0 rule d y q (subst (SFits w32) h.Lambda_Q10 fit))

-- ---- the far end hears what the winner meant
-- at every place of the frame the excitation that the final winner used is 64 times what the RFC's reader makes of the pulses and the seed handed out
pub winner-heard : (rule : Rule) (c : Call) (x out : List ℤ) → code_of (answered c x out) ≡ 0 → SFits w32 c.settings.Lambda_Q10
    → (h : ℕ) → h < count_of c * length_of c → word (winners_used rule c x out) h ≡ heard_at rule c x out h *ℤ pos 64
unfolding heard_row fix_by
winner-heard rule c x out e fit h q =
    let w = frame-belongs rule c x out e fit in
    let kinds = kinds-in-range c x out e in
    let kind = nat_z c.settings.signalType in
    let type = nat_z c.settings.quantOffsetType in
    let range = offset-range kind type kinds.0.most kinds.1.most in
    let own : ℕ → ℤ = λ i. word (winners_own rule c x out) i in
    let exact : (i : ℕ) → i < count_of c * length_of c → Exact (rfc_offset c *ℤ pos 4) (trail (pos w.j) own i) (own i) (word (winners_used rule c x out) i) =
    λ i z.
    subst (λ (y : ℤ). Exact y (trail (pos w.j) own i) (own i) (word (winners_used rule c x out) i))
    (fix-offset c 0 ∙ offset-is-rfc kind type kinds.0.most kinds.1.most) (w.exact i z) in
    let seed : (outcome rule c x out).seed ≡ pos w.j = ap (λ (z : Outcome). z.seed) (accepted-out rule c x out e) ∙ w.seed in
    read-own (rfc_offset c) range.0 range.1 (count_of c * length_of c) (pos w.j) own (λ i. word (winners_used rule c x out) i) exact
    (outcome rule c x out).pulses (pulses-long c x out e rule) (belongs rule c x out e fit) (nat_z (outcome rule c x out).seed)
    (ap nat_z seed ∙ sym (seed-word (pos w.j) refl (omega (arith, w.four)))) h q

-- and what a path notes as used is what the run itself went on with: with the long-term prediction added, and shifted by one, it stands in the path's
-- ring Pred_Q15 after the sample. For each path j, at sample i of subframe k
pub used-inside : (rule : Rule) (c : Call) (x out : List ℤ) → code_of (answered c x out) ≡ 0 → SFits w32 c.settings.Lambda_Q10
    → (k i j : ℕ) → k < count_of c → i < length_of c → j < paths_of c
    → ring_at (at_sample rule c x out k (suc i)).core.ps.rings j ring_pred (at_sample rule c x out k (suc i)).core.smpl_buf_idx
    ≡ shl32
    (wrap32
    (used (at_sample rule c x out k i) (swap_at (fix_of c k) (rows_of c k) x i (at_sample rule c x out k i)) (at_sample rule c x out k (suc i)) j
    +ℤ (common (fix_of c k) (rows_of c k) x i (at_sample rule c x out k i)).LTP_pred_Q14))
    1
unfolding fix_by
used-inside rule c x out e fit k i j h l m =
    let s = (ready c x out e).sound in
    rw (sample-next rule c x out k i)
    (used-goes-on rule (fix_of c k) (rows_of c k) x i (at_sample rule c x out k i) s.paths1 s.paths4 (tabled c x out e fit k)
    (omega (arith, subframe-within (length_of c) h, frame-320 c x out e)) (held_at rule c x out e fit k i h l) j m)

-- ---- no total wraps: at sample i of subframe k, of each path j
pub no-total-wraps : (rule : Rule) (c : Call) (x out : List ℤ) → code_of (answered c x out) ≡ 0 → SFits w32 c.settings.Lambda_Q10
    → (k i j : ℕ) → k < count_of c → i < length_of c → j < paths_of c → SummedAt (fix_of c k) (rows_of c k) x i (at_sample rule c x out k i) j
unfolding fix_by
no-total-wraps rule c x out e fit k i j h l m =
    summed_at (fix_of c k) (rows_of c k) x i (at_sample rule c x out k i) (tabled c x out e fit k) (ready c x out e).sound.paths4
    (omega (arith, subframe-within (length_of c) h, frame-320 c x out e)) (held_at rule c x out e fit k i h l) j m

-- nor does a cost to which the penalty is added between subframes: of each path j, when k subframes are done
pub no-raise-wraps : (rule : Rule) (c : Call) (x out : List ℤ) → code_of (answered c x out) ≡ 0 → SFits w32 c.settings.Lambda_Q10
    → (k j : ℕ) → k ≤ count_of c → j < paths_of c
    → wrap32 ((get_or (iter (subframe_turn rule c x) k (start c out)).run.core.ps.owns j no_path).RD_Q10 +ℤ penalty)
    ≡ (get_or (iter (subframe_turn rule c x) k (start c out)).run.core.ps.owns j no_path).RD_Q10 +ℤ penalty
no-raise-wraps rule c x out e fit k j h m =
    raised_at (omega (arith, mul-le-mul_right (length_of c) h, frame-320 c x out e)) (held_after rule c x out e fit k h) j m
