-- How long a text can be: at most 2249 bytes, so that a page of 4096 holds the whole of it. Assumes nothing.
use mathlib.Core.Path.{◌≡◌, refl, ◌∙◌}
use mathlib.Core.Bool.{Bool, true, false}
use mathlib.Core.List.{List, [], ◌∷◌}
use Prim.Native.Nat.{ℕ, zero, suc, ◌+◌, ◌≤◌, ◌<◌}
use native.Mathlib.Omega.{arith}
use lib.ListN.{length, get_or, take, length-append}
use lib.IntN.{ℤ, pos, negsuc, neg_ℤ}
use borrow.Author.Tests.{ne_eqb}
use mir.Syntax.{w8}
use mir.Val.{SFits}
use Rattle.fixed.specs.Iter.{iter, either}
use Rattle.fixed.proofs.Lin.{P, N, neg-lin, sfits-lin}
use Rattle.silk.specs.State.{zeros}
use Rattle.limits.specs.Count.{nat_z}
use Rattle.rfc6716.specs.Excitation.{offset_Q23, value, next_seed, signed, negates, pulse, turn, excitation}
use Rattle.choice.proofs.Rfc.{value-lin, sign-size}
use Rattle.pages.proofs.Pages.{puts-leaves}
use Rattle.sheet_words.specs.Number.{Read, got, bad, run, separator}
use Rattle.sheet_form.specs.Sections.{Reading, fault, sheet, triple, row, i8, section, after, or_fault, ended, sections}
use Rattle.sheet_form.proofs.Fitting.{All, AllRead, bytes-section-fits}
use lib.Dec.{eqb, ltb}
use mir.Facts.{sfits_lit}
use Rattle.sheet_form.proofs.Faults.{FaultMost, found-most}
use Rattle.sheet_text.specs.Text.{line_of, answer_word}
use Rattle.sheet_text.proofs.Short.{Small, AllSmall, all_more, line-one, lines-short, fault-short}
use Rattle.std.specs.Prelude.{Ok, Err}
use Rattle.excitation.specs.declared.answer.Refusal.TheVariants.{Seeds, Kinds, Rows}
use Rattle.excitation.specs.Code.{Answer, code_of}
use Rattle.excitation.specs.Refused.{answer_of}
use Rattle.excitation.specs.Reading.{heard_row, heard_by, reading}
use Rattle.excitation.proofs.Accepted.{accepted-good}
use Rattle.hear_text.specs.Heard.{form, found, answer_text, heard_text, call_text, sections_text, text_of, hear_text}
use Rattle.hear_text.proofs.hear.hear.Reads as hear

-- ---- the values
-- an offset of the table, or 0 past it
pair-most : (a b : ℕ) (j : ℕ) → a ≤ 60 → b ≤ 60 → (P (get_or (pos a ∷ pos b ∷ []) j (pos 0)) ≤ 60) × (N (get_or (pos a ∷ pos b ∷ []) j (pos 0)) ≤ 0)
pair-most a b zero h k = omega arith
pair-most a b (suc zero) h k = omega arith
pair-most a b (suc (suc j)) h k = omega arith

offset-most : (i j : ℕ) → (P (offset_Q23 i j) ≤ 60) × (N (offset_Q23 i j) ≤ 0)
unfolding offset_Q23
offset-most zero j = pair-most 25 60 j (omega arith) (omega arith)
offset-most (suc zero) j = pair-most 25 60 j (omega arith) (omega arith)
offset-most (suc (suc zero)) j = pair-most 8 25 j (omega arith) (omega arith)
offset-most (suc (suc (suc i))) j = omega arith

turned-small : (b : Bool) (v : ℤ) → Small v → Small (either b (neg_ℤ v) v)
turned-small true v h = omega (arith, neg-lin v)
turned-small false v h = h

-- one of P and N is 0
size : (z : ℤ) (n : ℕ) → P z ≤ n + N z → N z ≤ n + P z → P z + N z ≤ n
size (pos z) n h k = omega arith
size (negsuc z) n h k = omega arith

module _ (o : ℤ) (most : (P o ≤ 60) × (N o ≤ 0)) (pulses : List ℤ) (fits : (i : ℕ) → SFits w8 (get_or pulses i (pos 0))) where
  value-small : (i seed : ℕ) → Small (signed seed (value o (get_or pulses i (pos 0))))
  unfolding signed
  value-small i seed =
      let x = get_or pulses i (pos 0) in
      let l = value-lin o x in
      let s = sign-size x in
      let f = sfits-lin (fits i) in
      turned-small (negates seed) (value o x) (omega (arith, size (value o x) 40000 (omega arith) (omega arith)))

  turns : (n seed : ℕ) → let t = iter (turn o pulses) n (record { seed = seed; e_Q23 = [] }) in (length t.e_Q23 ≡ n) × AllSmall t.e_Q23
  unfolding pulse
  turns zero seed = (refl, tt)
  turns (suc n) seed =
      let t = iter (turn o pulses) n (record { seed = seed; e_Q23 = [] }) in
      let h = turns n seed in
      (length-append t.e_Q23 _ ∙ omega (arith, h.0), all_more t.e_Q23 _ h.1 (value-small n (next_seed t.seed)))

-- the row that is heard: one value for each pulse, all small
row_small : (seed signalType offset_type : ℤ) (pulses : List ℤ) → ((i : ℕ) → SFits w8 (get_or pulses i (pos 0)))
    → (length (heard_row seed signalType offset_type pulses) ≡ length pulses) × AllSmall (heard_row seed signalType offset_type pulses)
unfolding heard_row excitation
row_small seed signalType offset_type pulses fits =
    turns (offset_Q23 (nat_z signalType) (nat_z offset_type)) (offset-most (nat_z signalType) (nat_z offset_type)) pulses fits (length pulses) (nat_z seed)

-- ---- the text of a call: its line, and after number 0 at most 320 values of 7 bytes with what follows each
answer-most : (number : ℕ) (values : List ℤ) → number < 10 → (number ≡ 0 → (length values ≤ 320) × AllSmall values) → length (answer_text number values) ≤ 2249
unfolding answer_text
answer-most zero values h k =
    let v = k refl in
    rw (length-append (line_of answer_word (pos 0)) _) (omega (arith, line-one answer_word 0 h, lines-short (length values) 0 values v.1, v.0))
answer-most (suc n) values h k =
    rw (ne_eqb (suc n) 0 (λ e. omega arith), length-append (line_of answer_word (pos (suc n))) []) (omega (arith, line-one answer_word (suc n) h))

heard-short : (a : Answer) (values lent : List ℤ) → (code_of a ≡ 0 → (length values ≤ 320) × AllSmall values) → length (heard_text (heard_by a values lent)) ≤ 2249
unfolding heard_text heard_by
heard-short (Ok u) values lent h = answer-most 0 values (omega arith) h
heard-short (Err Seeds) values lent h = answer-most 1 lent (omega arith) (λ e. absurd (omega arith))
heard-short (Err Kinds) values lent h = answer-most 2 lent (omega arith) (λ e. absurd (omega arith))
heard-short (Err Rows) values lent h = answer-most 3 lent (omega arith) (λ e. absurd (omega arith))

call-short : (seed signalType offset_type : ℤ) (pulses : List ℤ) → ((i : ℕ) → SFits w8 (get_or pulses i (pos 0))) → length (call_text seed signalType offset_type pulses) ≤ 2249
unfolding call_text reading
call-short seed signalType offset_type pulses fits =
    let r = row_small seed signalType offset_type pulses fits in
    heard-short (answer_of seed signalType offset_type (length pulses) (length (zeros (length pulses)))) _ _
    (λ e. (omega (arith, r.0, (accepted-good seed signalType offset_type (length pulses) (length (zeros (length pulses))) e).most), r.1))

-- ---- every text
-- the pulses of a sheet that was read fit 8 bits
abbrev PulsesFit : Reading → Type 0
PulsesFit (fault k) = Unit {0}
PulsesFit (sheet rows) = All w8 (get_or rows 1 [])

zero-fits : All w8 []
zero-fits i = sfits_lit tt

ended-fit : (k : ℕ) (s : List ℕ) (three pulses : List ℤ) → All w8 pulses → PulsesFit (after three (after pulses (ended k s)))
unfolding after ended
ended-fit k s three pulses h = by_test (eqb (run separator s) (length s))
  where
    by_test : (b : Bool) → PulsesFit (after three (after pulses (either b (sheet []) (fault k))))
    by_test true = h
    by_test false = tt

second-fit : (three : List ℤ) (m : Read (List ℤ)) → AllRead w8 m → PulsesFit (after three (or_fault 2 m (sections [] 3)))
unfolding after or_fault sections
second-fit three (got pulses s) h = ended-fit 3 s three pulses h
second-fit three bad h = tt

first-fit : (m : Read (List ℤ)) → PulsesFit (or_fault 1 m (sections (row i8 ∷ []) 2))
unfolding or_fault sections
first-fit (got three s) = second-fit three (section (row i8) s) (bytes-section-fits s)
first-fit bad = tt

either-fit : (b : Bool) (m : Reading) → PulsesFit m → PulsesFit (either b (fault 0) m)
either-fit true m h = tt
either-fit false m h = h

pulses-fit : (s : List ℕ) → PulsesFit (found s)
unfolding found form sections
pulses-fit s = either-fit (ltb 65536 (length s)) (or_fault 1 (section triple s) (sections (row i8 ∷ []) 2)) (first-fit (section triple s))

text-short : (m : Reading) → FaultMost 3 m → PulsesFit m → length (text_of m) ≤ 2249
unfolding text_of sections_text
text-short (fault k) p fits = omega (arith, fault-short k (omega arith))
text-short (sheet rows) p fits = call-short (get_or (get_or rows 0 []) 0 (pos 0)) (get_or (get_or rows 0 []) 1 (pos 0)) (get_or (get_or rows 0 []) 2 (pos 0)) (get_or rows 1 []) fits

found-fault : (s : List ℕ) → FaultMost 3 (found s)
unfolding found form
found-fault s = found-most 3 form s (omega arith)

-- no text is longer than 9 bytes for the answer's line and 7 for each of 320 values
pub text-most : (s : List ℕ) → length (hear_text s) ≤ 2249
unfolding hear_text
text-most s = text-short (found s) (found-fault s) (pulses-fit s)

-- so a page of 4096 bytes holds it: of what the contract leaves there the first bytes, as many as the code's count says, are the text
pub hear-leaves : (κs a r e : _) → hear.Post κs a r e → length a.1.0.now ≡ 4096 → take r e.1.0.now ≡ hear_text a.0.now
hear-leaves κs a r e p l = puts-leaves (hear_text a.0.now) a.1.0.now e.1.0.now r p (omega (arith, text-most a.0.now))
