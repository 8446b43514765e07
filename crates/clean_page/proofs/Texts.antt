-- The parts of the text, as the code puts them together. Assumes nothing.
use Prim.Native.Nat.{ℕ, zero, suc, ◌<◌}
use native.Mathlib.Omega.{arith}
use mathlib.Core.Path.{◌≡◌, refl, sym, ap, ◌∙◌}
use mathlib.Core.List.{List, [], ◌∷◌}
use lib.ListN.{length}
use lib.Seq.{ext_get_or}
use lib.IntN.{ℤ, pos}
use borrow.Author.Tests.{ne_eqb}
use Rattle.fixed.specs.Row.{word}
use Rattle.settings_row.specs.Named.{settings_of}
use Rattle.refusal_rules.specs.Code.{code_of}
use Rattle.sheet_form.specs.Sections.{Reading, fault, sheet, reading, layout, settings, row, i16, i32}
use Rattle.sheet_form.specs.Sheets.{sheet_with, sheet_of}
use Rattle.sheet_form.specs.declared.sheet.Sheet.{Sheet}
use Rattle.sheet_form.specs.declared.fault.Fault.{Fault}
use Rattle.std.specs.Prelude.{Ok, Err}
use Rattle.sheet_print.specs.Rows.{settings_row, rows_of}
use Rattle.sheet_print.proofs.RoundTrip.{Allowed, Allowing}
use Rattle.sheet_text.specs.Text.{fault_text}
use Rattle.sheet_page.specs.Calls.{sheet_answer}
use Rattle.clean_page.specs.Sheets.{cleaned_rows}
use Rattle.clean_page.specs.Text.{became_text, refused_text, numbered_text, found_text}
use Rattle.clean_page.proofs.Read.{read-allowing}
use Rattle.clean_page.proofs.Within.{twelve, by-sections}

-- ---- by the number
pub accepted-text : (number m : ℕ) (s : List ℕ) (rows : List (List ℤ)) → number ≡ m → number ≡ 0 → became_text rows (cleaned_rows rows) ≡ numbered_text m s rows
unfolding numbered_text
accepted-text number m s rows e h = rw (← e, h) refl

pub refused-text : (number m : ℕ) (s : List ℕ) (rows : List (List ℤ)) → number ≡ m → (number ≡ 0 → ⊥) → refused_text number s ≡ numbered_text m s rows
unfolding numbered_text
refused-text number m s rows e h = rw (← e, ne_eqb number 0 h) refl

-- ---- a sheet that was read holds its sections
-- the settings by name, and back
settings-back : (l : List ℤ) → length l ≡ 12 → settings_row (settings_of l) ≡ l
unfolding settings_of
settings-back l e = ext_get_or (pos 0) (settings_row (settings_of l)) l (sym e) go
  where
    go : (j : ℕ) → j < 12 → word (settings_row (settings_of l)) j ≡ word l j
    go zero h = refl
    go (suc zero) h = refl
    go (suc (suc zero)) h = refl
    go (suc (suc (suc zero))) h = refl
    go (suc (suc (suc (suc zero)))) h = refl
    go (suc (suc (suc (suc (suc zero))))) h = refl
    go (suc (suc (suc (suc (suc (suc zero)))))) h = refl
    go (suc (suc (suc (suc (suc (suc (suc zero))))))) h = refl
    go (suc (suc (suc (suc (suc (suc (suc (suc zero)))))))) h = refl
    go (suc (suc (suc (suc (suc (suc (suc (suc (suc zero))))))))) h = refl
    go (suc (suc (suc (suc (suc (suc (suc (suc (suc (suc zero)))))))))) h = refl
    go (suc (suc (suc (suc (suc (suc (suc (suc (suc (suc (suc zero))))))))))) h = refl
    go (suc (suc (suc (suc (suc (suc (suc (suc (suc (suc (suc (suc j)))))))))))) h = absurd (omega arith)

held-ten : (r1 r2 r3 r4 r5 r6 r7 r8 r9 r10 : List ℤ)
    → Allowed settings r1 → Allowed (row i16) r2 → Allowed (row i16) r3 → Allowed (row i16) r4 → Allowed (row i16) r5
    → Allowed (row i32) r6 → Allowed (row i32) r7 → Allowed (row i32) r8 → Allowed (row i32) r9 → Allowed (row i32) r10
    → rows_of (sheet_with (r1 ∷ r2 ∷ r3 ∷ r4 ∷ r5 ∷ r6 ∷ r7 ∷ r8 ∷ r9 ∷ r10 ∷ [])) ≡ r1 ∷ r2 ∷ r3 ∷ r4 ∷ r5 ∷ r6 ∷ r7 ∷ r8 ∷ r9 ∷ r10 ∷ []
unfolding rows_of sheet_with
held-ten r1 r2 r3 r4 r5 r6 r7 r8 r9 r10 a1 a2 a3 a4 a5 a6 a7 a8 a9 a10 = rw (settings-back r1 (twelve r1 a1)) refl

pub held_rows : (rows : List (List ℤ)) → Allowing layout rows → rows_of (sheet_with rows) ≡ rows
held_rows = by-sections (λ (rows : List (List ℤ)). rows_of (sheet_with rows) ≡ rows) held-ten

-- ---- by what the bytes are found to be
pub text-good : (s : List ℕ) (m : Reading) (q : Sheet) → reading s ≡ m → Ok q ≡ sheet_of m → numbered_text (code_of (sheet_answer (rows_of q))) s (rows_of q) ≡ found_text s m
unfolding sheet_of found_text
text-good s (sheet rows) q e h =
    let x : q ≡ sheet_with rows = cc in
    ap (λ (r : List (List ℤ)). numbered_text (code_of (sheet_answer r)) s r) (ap rows_of x ∙ held_rows rows (read-allowing s rows e))
text-good s (fault k) q e h = absurd (grind arith)

pub text-fault : (s : List ℕ) (m : Reading) (f : Fault) → Err f ≡ sheet_of m → fault_text f.number ≡ found_text s m
unfolding sheet_of found_text
text-fault s (fault j) f e = let x : f ≡ record { number = j } = cc in ap (λ (g : Fault). fault_text g.number) x
text-fault s (sheet rows) f e = absurd (grind arith)
