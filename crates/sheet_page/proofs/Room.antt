-- How long the text of a sheet can be: at most 2266 bytes, so that a page of 4096 holds the whole of it. Assumes nothing.
use mathlib.Core.Path.{◌≡◌, refl}
use mathlib.Core.Bool.{Bool, true, false}
use mathlib.Core.List.{List, [], ◌∷◌}
use Prim.Native.Nat.{ℕ, suc, ◌+◌, ◌*◌, ◌≤◌, ◌<◌, min}
use native.Mathlib.Omega.{arith}
use lib.ListN.{length, take}
use lib.IntN.{ℤ}
use lib.Dec.{eqb}
use borrow.Author.Tests.{eqb-true, eqb-false}
use mir.Syntax.{w8}
use mir.Val.{SFits}
use mir.Facts.{sfits_lit}
use Rattle.fixed.specs.Row.{word}
use Rattle.fixed.proofs.Lin.{sfits-lin}
use Rattle.silk.proofs.Zeros.{zeros-word}
use Rattle.silk.specs.State.{zeros}
use Rattle.pages.specs.Page.{page, puts}
use Rattle.pages.proofs.Pages.{puts-leaves, Whole, whole-page as on-page}
use Rattle.refusal_rules.specs.declared.answer.Refusal.TheVariants.{Lengths, Orders, Paths, Kinds, Rows, Gains, Lags}
use Rattle.refusal_rules.specs.Code.{Answer, code_of}
use Rattle.std.specs.Prelude.{Ok, Err}
use Rattle.steps.specs.Among.{Rule, keeps_first}
use Rattle.steps.specs.Call.{Call}
use Rattle.steps.specs.Entry.{answered, outcome}
use Rattle.steps.proofs.Outcomes.{outcome-is, refused-by}
use Rattle.steps.proofs.Handed.{accepted-bytes}
use Rattle.sheet_form.specs.Sections.{Reading, fault, sheet, reading}
use Rattle.sheet_form.proofs.Numbers.{zeros-length}
use Rattle.sheet_form.proofs.Faults.{FaultMost, reading-most}
use Rattle.sheet_text.proofs.Short.{Small, AllSmall, fault-short, answer-short}
use Rattle.sheet_page.specs.Calls.{settings_in, samples_in, sheet_call, defaulted, frame_length}
use Rattle.sheet_page.specs.Page.{outcome_text, found_page, sheet_page}
use Rattle.sheet_page.proofs.Texts.{short_row}
use Rattle.sheet_page.proofs.page.sheet_page.Reads as sheet-page

-- ---- numbers of a byte
byte_small : {z : ℤ} → SFits w8 z → Small z
byte_small f = omega (arith, sfits-lin f)

bytes_small : (l : List ℤ) → ((i : ℕ) → SFits w8 (word l i)) → AllSmall l
bytes_small [] h = tt
bytes_small (z ∷ l) h = (byte_small (h 0), bytes_small l (λ i. h (suc i)))

zeros-bytes : (n i : ℕ) → SFits w8 (word (zeros n) i)
zeros-bytes n i = rw (zeros-word n i) (sfits_lit tt)

code-small : (a : Answer) → code_of a < 100000
code-small (Ok u) = omega arith
code-small (Err Lengths) = omega arith
code-small (Err Orders) = omega arith
code-small (Err Paths) = omega arith
code-small (Err Kinds) = omega arith
code-small (Err Rows) = omega arith
code-small (Err Gains) = omega arith
code-small (Err Lags) = omega arith

-- ---- the text of a call that is lent n zeros for its pulses: 26 bytes for its number and its seed, 7 for each pulse with what follows it
call-short : (rule : Rule) (c : Call) (x : List ℤ) (n : ℕ) (b : Bool) → eqb (code_of (answered c x (zeros n))) 0 ≡ b
    → length (outcome_text (outcome rule c x (zeros n))) ≤ 26 + 7 * n
unfolding outcome_text
call-short rule c x n true e =
    let a = answered c x (zeros n) in
    let z = eqb-true (code_of a) 0 e in
    let h = accepted-bytes rule c x (zeros n) (zeros-bytes n) z in
    let o = outcome rule c x (zeros n) in
    let k = answer-short (code_of o.answer) o.seed o.pulses (code-small o.answer) (λ q. (byte_small h.seed-fits, bytes_small o.pulses h.row.bytes)) in
    omega (arith, k, h.row.long, zeros-length n)
call-short rule c x n false e =
    let a = answered c x (zeros n) in
    let z : 0 < code_of a = omega (arith, eqb-false (code_of a) 0 e) in
    rw (outcome-is rule c x (zeros n), refused-by rule c x (zeros n) a z)
    (let k = answer-short (code_of a) c.settings.Seed (zeros n) (code-small a) (λ q. absurd (omega arith)) in omega (arith, k, zeros-length n))

-- ---- the text of a sheet
found-short : (rule : Rule) (m : Reading) → FaultMost 11 m → length (found_page rule m) ≤ 2266
unfolding found_page
found-short rule (fault k) h = omega (arith, fault-short k (omega arith))
found-short rule (sheet rows) h =
    let n = min 320 (frame_length (settings_in rows)) in
    rw (← short_row rule rows) (omega (arith, call-short rule (defaulted (sheet_call rows)) (samples_in rows) n _ refl))

pub text-most : (rule : Rule) (s : List ℕ) → length (sheet_page rule s) ≤ 2266
unfolding sheet_page
text-most rule s = found-short rule (reading s) (reading-most s)

-- so a page of 4096 bytes holds it: of what the contract leaves there the first bytes, as many as the code's count says, are the text
pub sheet-page-leaves : (κs a r e : _) → sheet-page.Post κs a r e → length a.1.0.now ≡ 4096 → take r e.1.0.now ≡ sheet_page keeps_first a.0.now
sheet-page-leaves κs a r e p l =
    puts-leaves (sheet_page keeps_first a.0.now) a.1.0.now e.1.0.now r p (omega (arith, text-most keeps_first a.0.now))

-- .. and of a count and a page of which the contract's equation is known: the count is within the page too
pub whole-page : (s t out bytes : List ℕ) (used : ℕ) → s ≡ t → length out ≡ 4096 → page used bytes ≡ puts (sheet_page keeps_first s) (page 0 out) → Whole (sheet_page keeps_first t) out bytes used
whole-page s t out bytes used e l p = on-page (sheet_page keeps_first) s t out bytes used e (omega (arith, text-most keeps_first t)) p
