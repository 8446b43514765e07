-- The three kinds of output differ in their first byte: a fault line begins with `s` (115), a refused text with `a` (97), an accepted text with a
-- digit (48 to 57). So nobody can take one for another: from the first byte it is known what the input was. Assumes nothing.
use Prim.Native.Nat.{ℕ}
use native.Mathlib.Omega.{arith}
use mathlib.Core.Path.{◌≡◌, refl, ap}
use mathlib.Core.Bool.{Bool, true, false}
use mathlib.Core.List.{List, [], ◌∷◌, ◌++◌}
use mathlib.Core.Logic.{◌⊎◌, ◌↔◌, inl, inr, ⊎_elim}
use lib.ListN.{length}
use lib.IntN.{ℤ, pos}
use lib.Dec.{eqb}
use borrow.Author.Tests.{eqb-true, eqb-false}
use Rattle.pages.specs.Decimal.{digits, decimal}
use Rattle.refusal_rules.specs.Code.{code_of}
use Rattle.sheet_words.proofs.Values.{digit_at}
use Rattle.sheet_form.specs.Sections.{Reading, fault, sheet, reading}
use Rattle.sheet_text.specs.Text.{line_of, fault_text, spaced, section_text, sheet_text}
use Rattle.sheet_print.proofs.Printed.{digits-good}
use Rattle.cleaning.specs.Changes.{Change}
use Rattle.sheet_page.specs.Calls.{sheet_answer}
use Rattle.clean_page.specs.Sheets.{sections_of, cleaned_rows}
use Rattle.clean_page.specs.Text.{change_text, changes_text, clean_text}
use Rattle.clean_page.specs.Shape.{Faulty, Refused, Accepted, first_byte, DigitFirst}
use Rattle.clean_page.proofs.Theorems.{clean-faulty, clean-refused, clean-accepted}

-- ---- the three kinds of input
-- all bytes are of one of them
pub kind-of : (s : List ℕ) → Faulty s ⊎ (Refused s ⊎ Accepted s)
kind-of s = found (reading s) refl
  where
    answered : (rows : List (List ℤ)) → reading s ≡ sheet rows → (b : Bool) → eqb (code_of (sheet_answer rows)) 0 ≡ b → Faulty s ⊎ (Refused s ⊎ Accepted s)
    answered rows e true q = inr (inr (record { rows = rows; read = e; answer = eqb-true _ _ q }))
    answered rows e false q = inr (inl (record { rows = rows; read = e; answer = let n = eqb-false (code_of (sheet_answer rows)) 0 q in omega arith }))

    found : (m : Reading) → reading s ≡ m → Faulty s ⊎ (Refused s ⊎ Accepted s)
    found (fault k) e = inl (record { number = k; read = e })
    found (sheet rows) e = answered rows e _ refl

-- ---- first bytes
-- with anything after it too
more_by : (s t : List ℕ) → DigitFirst s → DigitFirst (s ++ t)
more_by [] t h = let l = h.least in absurd (omega arith)
more_by (b ∷ s) t h = record { least = h.least; most = h.most }

more-after : {s : List ℕ} (t : List ℕ) → DigitFirst s → DigitFirst (s ++ t)
more-after {s} t h = more_by s t h

number-first : (n : ℕ) → DigitFirst (decimal (pos n))
unfolding decimal
number-first n =
    let g = digits-good n in
    let d = digit_at (digits n) g.all 0 g.some in
    record { least = d.0; most = d.1 }

change-first : (c : Change) → DigitFirst (change_text c)
unfolding change_text
change-first c =
    more-after (10 ∷ [])
    (more-after (32 ∷ decimal c.new) (more-after (32 ∷ decimal c.old) (more-after (32 ∷ decimal (pos c.place)) (number-first c.section))))

section-first : (zs : List ℤ) → DigitFirst (section_text zs)
unfolding section_text
section-first zs = more-after (10 ∷ []) (more-after (spaced zs) (number-first (length zs)))

became-first : (cs : List Change) (zs : List ℤ) (rows : List (List ℤ)) → DigitFirst (changes_text cs ++ sheet_text (zs ∷ rows))
unfolding changes_text sheet_text
became-first [] zs rows = more-after (sheet_text rows) (section-first zs)
became-first (c ∷ cs) zs rows = more-after (sheet_text (zs ∷ rows)) (more-after (changes_text cs) (change-first c))

cleaned-first : (rows : List (List ℤ)) (cs : List Change) → DigitFirst (changes_text cs ++ sheet_text (cleaned_rows rows))
unfolding cleaned_rows sections_of
cleaned-first rows cs = became-first cs _ _

-- ---- what each kind of output begins with
module _ (s : List ℕ) where
  faulty-first : Faulty s → first_byte (clean_text s) ≡ 115
  unfolding fault_text line_of
  faulty-first f = ap first_byte (clean-faulty s f.number f.read)

  refused-first : Refused s → first_byte (clean_text s) ≡ 97
  unfolding line_of
  refused-first r = ap first_byte (clean-refused s r.rows r.read r.answer)

  accepted-first : Accepted s → DigitFirst (clean_text s)
  accepted-first a = rw (clean-accepted s a.rows a.read a.answer) (cleaned-first a.rows _)

  -- ---- so bytes are of a kind exactly when their text begins so
  by_kind : {C : Type 0} → (Faulty s → C) → (Refused s → C) → (Accepted s → C) → C
  by_kind f r a = ⊎_elim f (⊎_elim r a) (kind-of s)

  pub exactly-faulty : Faulty s ↔ (first_byte (clean_text s) ≡ 115)
  exactly-faulty = (
    faulty-first,
    λ e. by_kind (λ f. f) (λ r. absurd (omega (arith, refused-first r))) (λ a. let d = (accepted-first a).most in absurd (omega arith)),
  )

  pub exactly-refused : Refused s ↔ (first_byte (clean_text s) ≡ 97)
  exactly-refused = (
    refused-first,
    λ e. by_kind (λ f. absurd (omega (arith, faulty-first f))) (λ r. r) (λ a. let d = (accepted-first a).most in absurd (omega arith)),
  )

  pub exactly-accepted : Accepted s ↔ DigitFirst (clean_text s)
  exactly-accepted = (
    accepted-first,
    λ d.
        let l = d.most in
        by_kind (λ f. absurd (omega (arith, faulty-first f))) (λ r. absurd (omega (arith, refused-first r))) (λ a. a),
  )
