-- Of bytes: what `clean` prints for each of the three kinds of input; that its list of changes is exactly what differs; that the cleaned sheet
-- which it prints is read back as the cleaned numbers, gets from `sheet` what the old one got, and is printed alone when cleaned again; and that two
-- sheets equal in everything that counts are cleaned to the same text. Assumes nothing.
use Prim.Native.Nat.{ℕ, ◌<◌}
use native.Mathlib.Omega.{arith}
use mathlib.Core.Path.{◌≡◌, refl, sym, ap, ◌∙◌}
use mathlib.Core.List.{List, ◌++◌}
use lib.IntN.{ℤ, pos}
use borrow.Author.Tests.{ne_eqb}
use Rattle.refusal_rules.specs.Code.{code_of}
use Rattle.steps.specs.Among.{Rule}
use Rattle.sheet_form.specs.Sections.{Reading, fault, sheet, reading}
use Rattle.sheet_text.specs.Text.{answer_word, line_of, fault_text, sheet_text}
use Rattle.sheet_print.proofs.RoundTrip.{reading-of-print}
use Rattle.counts.specs.Agree.{Agree}
use Rattle.cleaning.specs.Changes.{Change, changes, undone, Differ, Has, InOrder}
use Rattle.cleaning.proofs.Listed.{listed-differs, differs-listed, listed-in-order, rebuilt, none-listed}
use Rattle.sheet_page.specs.Calls.{samples_in, sheet_call, sheet_answer}
use Rattle.sheet_page.specs.Page.{outcome_text, found_page, sheet_page}
use Rattle.clean_page.specs.Sheets.{cleaned_rows}
use Rattle.clean_page.specs.Text.{changes_text, became_text, refused_text, numbered_text, found_text, clean_text}
use Rattle.clean_page.proofs.Sheets.{sheet-heard, sheet-answer, rows-twice, sheets-same, answers-same}
use Rattle.clean_page.proofs.Read.{read-allowing}
use Rattle.clean_page.proofs.Within.{Kept, clean-kept}

-- ---- the three kinds of input
found-is : (s : List ℕ) (m : Reading) → reading s ≡ m → clean_text s ≡ found_text s m
unfolding clean_text
found-is s m e = rw e refl

-- faulty: the known fault line
pub clean-faulty : (s : List ℕ) (k : ℕ) → reading s ≡ fault k → clean_text s ≡ fault_text k
unfolding found_text
clean-faulty s k e = found-is s (fault k) e

found-sheet : (s : List ℕ) (rows : List (List ℤ)) → reading s ≡ sheet rows → clean_text s ≡ numbered_text (code_of (sheet_answer rows)) s rows
unfolding found_text
found-sheet s rows e = found-is s (sheet rows) e

-- refused: the number's line, then the input byte for byte
numbered-refused : (n : ℕ) (s : List ℕ) (rows : List (List ℤ)) → 0 < n → numbered_text n s rows ≡ line_of answer_word (pos n) ++ s
unfolding numbered_text refused_text
numbered-refused n s rows h = rw (ne_eqb n 0 (λ e. omega arith)) refl

pub clean-refused : (s : List ℕ) (rows : List (List ℤ)) → reading s ≡ sheet rows → 0 < code_of (sheet_answer rows)
    → clean_text s ≡ line_of answer_word (pos (code_of (sheet_answer rows))) ++ s
clean-refused s rows e h = found-sheet s rows e ∙ numbered-refused (code_of (sheet_answer rows)) s rows h

-- accepted: a line for each change, then the cleaned sheet
numbered-accepted : (n : ℕ) (s : List ℕ) (rows : List (List ℤ)) → n ≡ 0 → numbered_text n s rows ≡ changes_text (changes rows (cleaned_rows rows)) ++ sheet_text (cleaned_rows rows)
unfolding numbered_text became_text
numbered-accepted n s rows h = rw h refl

pub clean-accepted : (s : List ℕ) (rows : List (List ℤ)) → reading s ≡ sheet rows → code_of (sheet_answer rows) ≡ 0
    → clean_text s ≡ changes_text (changes rows (cleaned_rows rows)) ++ sheet_text (cleaned_rows rows)
clean-accepted s rows e h = found-sheet s rows e ∙ numbered-accepted (code_of (sheet_answer rows)) s rows h

-- ---- of a sheet that was read: its list of changes
module _ (s : List ℕ) (rows : List (List ℤ)) (e : reading s ≡ sheet rows) where
  fits : Kept rows
  fits = clean-kept rows (read-allowing s rows e)

  -- what is listed is a place where the cleaned sheet differs, with the number before and the number after; each such place is listed; in
  -- sheet order
  pub changes-differ : (c : Change) → Has c (changes rows (cleaned_rows rows)) → Differ rows (cleaned_rows rows) c
  changes-differ c h = listed-differs rows (cleaned_rows rows) c h

  pub differ-changes : (c : Change) → Differ rows (cleaned_rows rows) c → Has c (changes rows (cleaned_rows rows))
  differ-changes c h = differs-listed rows (cleaned_rows rows) c fits.shape h

  pub changes-in-order : InOrder (changes rows (cleaned_rows rows))
  changes-in-order = listed-in-order rows (cleaned_rows rows)

  -- from the cleaned sheet and the list the old one
  pub rebuilt-sheet : undone 1 (changes rows (cleaned_rows rows)) (cleaned_rows rows) ≡ rows
  rebuilt-sheet = rebuilt rows (cleaned_rows rows) fits.shape

  -- ---- the printed sheet
  pub reads-back : reading (sheet_text (cleaned_rows rows)) ≡ sheet (cleaned_rows rows)
  reads-back = reading-of-print (cleaned_rows rows) fits.allowing

  -- cleaned again it is printed alone: no change line
  pub clean-again : code_of (sheet_answer rows) ≡ 0 → clean_text (sheet_text (cleaned_rows rows)) ≡ sheet_text (cleaned_rows rows)
  unfolding changes_text
  clean-again h =
      clean-accepted (sheet_text (cleaned_rows rows)) (cleaned_rows rows) reads-back (ap code_of (sheet-answer rows) ∙ h)
      ∙ rw (rows-twice rows, none-listed (cleaned_rows rows)) refl

  -- `sheet` prints the same for it as for the old one, whatever comes of that
  pub same-page : (rule : Rule) → sheet_page rule (sheet_text (cleaned_rows rows)) ≡ sheet_page rule s
  unfolding sheet_page found_page outcome_text
  same-page rule =
      let h = sheet-heard rule rows in
      rw (reads-back, e, h.answer, h.seed, h.pulses) refl

-- ---- two sheets, the first accepted, equal in everything that counts, whatever rows for pulses stand beside them: both are accepted, and the
-- same cleaned sheet is printed
pub same-accepted : (rows others : List (List ℤ)) (p q : List ℤ) → Agree (sheet_call rows) (samples_in rows) p (sheet_call others) (samples_in others) q
    → code_of (sheet_answer rows) ≡ 0 → code_of (sheet_answer others) ≡ 0
same-accepted rows others p q h z = ap code_of (sym (answers-same rows others p q h)) ∙ z

pub same_text : (rows others : List (List ℤ)) (p q : List ℤ) → Agree (sheet_call rows) (samples_in rows) p (sheet_call others) (samples_in others) q
    → code_of (sheet_answer rows) ≡ 0 → sheet_text (cleaned_rows rows) ≡ sheet_text (cleaned_rows others)
same_text rows others p q h z = ap sheet_text (sheets-same rows others p q h z)
