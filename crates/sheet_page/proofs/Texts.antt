-- The parts of the text, as the code puts them together. Assumes nothing.
use mathlib.Core.Path.{◌≡◌, refl, sym, ap, ◌∙◌}
use mathlib.Core.Bool.{Bool, true, false}
use mathlib.Core.List.{List}
use Prim.Native.Nat.{ℕ, ◌≤◌, min}
use native.Mathlib.Omega.{arith}
use lib.ListN.{take}
use lib.IntN.{ℤ, pos}
use Rattle.silk.specs.State.{zeros}
use Rattle.silk.specs.declared.structs.NsqState.{NsqState}
use Rattle.limits.specs.Tests.{lengths_refused}
use Rattle.std.specs.Prelude.{Err}
use Rattle.refusal_rules.specs.declared.answer.Refusal.{Refusal}
use Rattle.refusal_rules.specs.Code.{Answer, refusal_code, code_of}
use Rattle.refusal_rules.proofs.Matched.{code-refused}
use borrow.Author.Tests.{ne_eqb}
use Rattle.refusal_rules.specs.Table.{table, answer_of}
use Rattle.refusal_rules.proofs.Accept.{lengths-good}
use Rattle.refusal_rules.proofs.Room.{frame-within}
use Rattle.steps.specs.Among.{Rule}
use Rattle.steps.specs.Call.{Call}
use Rattle.steps.specs.Entry.{Outcome, outcome_of, answered, outcome_by, outcome}
use Rattle.sheet_form.specs.Sections.{Reading, fault, sheet}
use Rattle.sheet_form.specs.Sheets.{with_default, sheet_with, sheet_of}
use Rattle.sheet_form.specs.declared.sheet.Sheet.{Sheet}
use Rattle.sheet_form.specs.declared.fault.Fault.{Fault}
use Rattle.std.specs.Prelude.{Ok, Err}
use Rattle.sheet_form.proofs.Fitting.{zeros-first}
use Rattle.sheet_print.specs.Rows.{rows_of}
use Rattle.sheet_text.specs.Text.{line_of, answer_word, answer_text, fault_text}
use Rattle.sheet_page.specs.Calls.{settings_in, samples_in, sheet_call, defaulted, frame_length, pulses_for, sheet_outcome}
use Rattle.sheet_page.specs.Page.{outcome_text, found_page}
use Rattle.sheet_page.proofs.Called.{held-outcome, held-settings}

-- number, seed and pulses of what came of a call
pub text_of : (k : ℕ) (a : Answer) (z seed : ℤ) (state : NsqState) (out : List ℤ) (o : Outcome) → k ≡ code_of a → z ≡ seed → outcome_of a seed state out ≡ o
    → answer_text k z out ≡ outcome_text o
unfolding outcome_text
text_of k a z seed state out o e d f = rw (e, d, ← f)

-- refused, the text has the number alone
pub refused_text : (k : ℕ) (why : Refusal) (z seed : ℤ) (state : NsqState) (out : List ℤ) (o : Outcome) → k ≡ refusal_code why → outcome_of (Err why) seed state out ≡ o
    → answer_text k z out ≡ outcome_text o
unfolding outcome_text answer_text
refused_text k why z seed state out o e f = rw (e, ← f, ne_eqb (refusal_code why) 0 (λ q. let h = code-refused why in omega arith))

-- ---- the row that is lent for the pulses has at most 320 words
-- lengths that are refused: the text is the same with every row
lengths-text : (rule : Rule) (c : Call) (x out : List ℤ) → lengths_refused c.settings.subfr_length c.settings.nb_subfr ≡ true
    → outcome_text (outcome rule c x out) ≡ line_of answer_word (pos 1)
unfolding outcome_text outcome outcome_by answered answer_of table answer_text
lengths-text rule c x out e = rw e

-- N is no more than 320 where the lengths are not refused
frame-short : (c : Call) → lengths_refused c.settings.subfr_length c.settings.nb_subfr ≡ false → frame_length c.settings ≤ 320
unfolding frame_length
frame-short c e =
    let g = lengths-good c.settings.subfr_length c.settings.nb_subfr e in
    let w = frame-within g.0 g.1 in
    omega (arith, w)

by_lengths : (rule : Rule) (c : Call) (x : List ℤ) (b : Bool) → lengths_refused c.settings.subfr_length c.settings.nb_subfr ≡ b
    → outcome_text (outcome rule c x (zeros (min 320 (frame_length c.settings)))) ≡ outcome_text (outcome rule c x (zeros (frame_length c.settings)))
by_lengths rule c x true e = lengths-text rule c x _ e ∙ sym (lengths-text rule c x _ e)
by_lengths rule c x false e =
    let n : min 320 (frame_length c.settings) ≡ frame_length c.settings = omega (arith, frame-short c e) in
    ap (λ (m : ℕ). outcome_text (outcome rule c x (zeros m))) n

-- so the text of a sheet is that with a row of N words
pub short_row : (rule : Rule) (rows : List (List ℤ))
    → outcome_text (outcome rule (defaulted (sheet_call rows)) (samples_in rows) (zeros (min 320 (frame_length (settings_in rows))))) ≡ outcome_text (sheet_outcome rule rows)
unfolding sheet_outcome pulses_for defaulted sheet_call with_default frame_length
short_row rule rows = by_lengths rule (defaulted (sheet_call rows)) (samples_in rows) _ refl

-- ---- a sheet that was read: its answer, or its fault
pub page-good : (rule : Rule) (m : Reading) (s : Sheet) → Ok s ≡ sheet_of m → outcome_text (sheet_outcome rule (rows_of s)) ≡ found_page rule m
unfolding sheet_of found_page
page-good rule (sheet rows) s e = let x : s ≡ sheet_with rows = cc in ap (λ (q : Sheet). outcome_text (sheet_outcome rule (rows_of q))) x ∙ ap outcome_text (held-outcome rule rows)
page-good rule (fault k) s e = absurd (grind arith)

pub page-fault : (rule : Rule) (m : Reading) (f : Fault) → Err f ≡ sheet_of m → fault_text f.number ≡ found_page rule m
unfolding sheet_of found_page
page-fault rule (fault k) f e = let x : f ≡ record { number = k } = cc in ap (λ (g : Fault). fault_text g.number) x
page-fault rule (sheet rows) f e = absurd (grind arith)

-- ---- the row that is lent, by the count of its words
pub lent_row : (rule : Rule) (read : Sheet) (n : ℕ) (space : List ℤ) → n ≡ min 320 (frame_length read.settings) → space ≡ zeros 320
    → outcome_text (outcome rule (defaulted (sheet_call (rows_of read))) (samples_in (rows_of read)) (take n space)) ≡ outcome_text (sheet_outcome rule (rows_of read))
lent_row rule read n space e z =
    let m : n ≡ min 320 (frame_length (settings_in (rows_of read))) = rw (held-settings read) (omega (arith, e)) in
    rw (m, z, zeros-first (min 320 (frame_length (settings_in (rows_of read)))) (omega arith)) (short_row rule (rows_of read))
