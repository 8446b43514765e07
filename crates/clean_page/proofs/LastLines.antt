-- The lines of the text: of an accepted one the last ten are the cleaned sheet and each line before them is a change; of a refused one all after
-- the first line are the bytes that came. So the theorems hold of what a reader cuts out of the text by its line feeds. Assumes nothing.
use Prim.Native.Nat.{ℕ, suc, ◌+◌, ◌-◌, ◌<◌}
use native.Mathlib.Omega.{arith}
use mathlib.Core.Path.{◌≡◌, refl, sym, ap, ◌∙◌}
use mathlib.Core.Bool.{Bool, true, false}
use mathlib.Core.List.{List, [], ◌∷◌, ◌++◌, append_assoc}
use lib.ListN.{length}
use lib.IntN.{ℤ, pos, negsuc}
use lib.Dec.{eqb}
use borrow.Author.Tests.{ne_eqb}
use Rattle.fixed.specs.Iter.{either}
use Rattle.pages.specs.Decimal.{digits, decimal}
use Rattle.refusal_rules.specs.Code.{code_of}
use Rattle.steps.specs.Among.{Rule}
use Rattle.sheet_words.specs.Number.{digit, run}
use Rattle.sheet_words.proofs.Values.{first-digit}
use Rattle.sheet_form.specs.Sections.{sheet, reading}
use Rattle.sheet_text.specs.Text.{answer_word, line_of, spaced, section_text, sheet_text}
use Rattle.sheet_print.proofs.Printed.{digits-good}
use Rattle.counts.specs.Agree.{Agree}
use Rattle.cleaning.specs.Changes.{Change, changes}
use Rattle.sheet_page.specs.Calls.{samples_in, sheet_call, sheet_answer}
use Rattle.sheet_page.specs.Page.{sheet_page}
use Rattle.clean_page.specs.Sheets.{sections_of, cleaned_rows}
use Rattle.clean_page.specs.Text.{change_text, changes_text, clean_text}
use Rattle.clean_page.specs.Shape.{feeds, after_lines, last_lines}
use Rattle.clean_page.proofs.Theorems.{clean-refused, clean-accepted, clean-again, same-page, same-accepted, same_text}

-- ---- line feeds (byte 10)
feeds-append : (s t : List ℕ) → feeds (s ++ t) ≡ feeds s + feeds t
unfolding feeds
feeds-append [] t = omega arith
feeds-append (b ∷ s) t = go (eqb b 10) (feeds-append s t)
  where
    go : (q : Bool) → feeds (s ++ t) ≡ feeds s + feeds t → either q (suc (feeds (s ++ t))) (feeds (s ++ t)) ≡ either q (suc (feeds s)) (feeds s) + feeds t
    go true e = omega (arith, e)
    go false e = e

-- ---- a line: bytes without a line feed, and one
record Line (s : List ℕ) : Type 0 where
  body : List ℕ
  ends : s ≡ body ++ (10 ∷ [])
  plain : feeds body ≡ 0

plain_step : (b : ℕ) (s : List ℕ) → feeds (b ∷ s) ≡ 0 → (eqb b 10 ≡ false) × (feeds s ≡ 0)
unfolding feeds
plain_step b s e = go (eqb b 10) e
  where
    go : (q : Bool) → either q (suc (feeds s)) (feeds s) ≡ 0 → (q ≡ false) × (feeds s ≡ 0)
    go true h = absurd (omega (arith, h))
    go false h = (refl, h)

after-body : (n : ℕ) (s t : List ℕ) → feeds s ≡ 0 → after_lines (suc n) (s ++ (10 ∷ t)) ≡ after_lines n t
unfolding after_lines
after-body n [] t e = refl
after-body n (b ∷ s) t e = let h = plain_step b s e in rw h.0 (after-body n s t h.1)

-- a line before a text: one line feed more, and after it comes the text
line-then : {s : List ℕ} (l : Line s) (t : List ℕ) → s ++ t ≡ l.body ++ (10 ∷ t)
line-then l t = ap (λ (u : List ℕ). u ++ t) l.ends ∙ append_assoc l.body (10 ∷ []) t

line-feeds : {s : List ℕ} → Line s → (t : List ℕ) → feeds (s ++ t) ≡ suc (feeds t)
unfolding feeds
line-feeds l t = ap feeds (line-then l t) ∙ feeds-append l.body (10 ∷ t) ∙ omega (arith, l.plain)

line_after : {s : List ℕ} → Line s → (n : ℕ) (t : List ℕ) → after_lines (suc n) (s ++ t) ≡ after_lines n t
line_after l n t = ap (after_lines (suc n)) (line-then l t) ∙ after-body n l.body t l.plain

-- ---- numbers have no line feed
digits-plain : (s : List ℕ) → run digit s ≡ length s → feeds s ≡ 0
unfolding feeds
digits-plain [] e = refl
digits-plain (b ∷ s) e = let d = first-digit b s e in let l = d.0.0 in rw (ne_eqb b 10 (λ q. omega arith)) (digits-plain s d.1)

decimal-plain : (z : ℤ) → feeds (decimal z) ≡ 0
unfolding decimal feeds
decimal-plain (pos n) = digits-plain (digits n) (digits-good n).all
decimal-plain (negsuc n) = digits-plain (digits (suc n)) (digits-good (suc n)).all

spaced-plain : (zs : List ℤ) → feeds (spaced zs) ≡ 0
unfolding spaced feeds
spaced-plain [] = refl
spaced-plain (z ∷ zs) = omega (arith, feeds-append (decimal z) (spaced zs), decimal-plain z, spaced-plain zs)

-- ---- the lines of the text
then-number : (s : List ℕ) (z : ℤ) → feeds s ≡ 0 → feeds (s ++ (32 ∷ decimal z)) ≡ 0
unfolding feeds
then-number s z e = omega (arith, feeds-append s (32 ∷ decimal z), decimal-plain z, e)

change-line : (c : Change) → Line (change_text c)
unfolding change_text
change-line c =
    record {
      body = decimal (pos c.section) ++ (32 ∷ decimal (pos c.place)) ++ (32 ∷ decimal c.old) ++ (32 ∷ decimal c.new);
      ends = refl;
      plain = then-number _ c.new (then-number _ c.old (then-number _ (pos c.place) (decimal-plain (pos c.section))));
    }

section-line : (zs : List ℤ) → Line (section_text zs)
unfolding section_text
section-line zs =
    record {
      body = decimal (pos (length zs)) ++ spaced zs;
      ends = refl;
      plain = omega (arith, feeds-append (decimal (pos (length zs))) (spaced zs), decimal-plain (pos (length zs)), spaced-plain zs);
    }

answer-line : (k : ℕ) → Line (line_of answer_word (pos k))
unfolding line_of feeds
answer-line k = record { body = answer_word ++ decimal (pos k); ends = refl; plain = decimal-plain (pos k) }

-- as many as there are changes, and as there are sections
changes-feeds : (cs : List Change) (t : List ℕ) → feeds (changes_text cs ++ t) ≡ length cs + feeds t
unfolding changes_text
changes-feeds [] t = omega arith
changes-feeds (c ∷ cs) t =
    ap feeds (append_assoc (change_text c) (changes_text cs) t) ∙ line-feeds (change-line c) (changes_text cs ++ t) ∙ omega (arith, changes-feeds cs t)

changes-after : (cs : List Change) (t : List ℕ) → after_lines (length cs) (changes_text cs ++ t) ≡ t
unfolding changes_text after_lines
changes-after [] t = refl
changes-after (c ∷ cs) t =
    ap (after_lines (suc (length cs))) (append_assoc (change_text c) (changes_text cs) t)
    ∙ line_after (change-line c) (length cs) (changes_text cs ++ t)
    ∙ changes-after cs t

sheet-feeds : (rows : List (List ℤ)) → feeds (sheet_text rows) ≡ length rows
unfolding sheet_text feeds
sheet-feeds [] = refl
sheet-feeds (zs ∷ rows) = line-feeds (section-line zs) (sheet_text rows) ∙ omega (arith, sheet-feeds rows)

last-lines : (cs : List Change) (rows : List (List ℤ)) → last_lines (length rows) (changes_text cs ++ sheet_text rows) ≡ sheet_text rows
unfolding last_lines
last-lines cs rows =
    let n : feeds (changes_text cs ++ sheet_text rows) - length rows ≡ length cs = omega (arith, changes-feeds cs (sheet_text rows), sheet-feeds rows) in
    ap (λ (k : ℕ). after_lines k (changes_text cs ++ sheet_text rows)) n ∙ changes-after cs (sheet_text rows)

cleaned-last : (rows : List (List ℤ)) (cs : List Change) → last_lines 10 (changes_text cs ++ sheet_text (cleaned_rows rows)) ≡ sheet_text (cleaned_rows rows)
unfolding cleaned_rows sections_of
cleaned-last rows cs = last-lines cs (cleaned_rows rows)

-- ---- refused: after the first line the bytes that came
pub refused-rest : (s : List ℕ) (rows : List (List ℤ)) → reading s ≡ sheet rows → 0 < code_of (sheet_answer rows) → after_lines 1 (clean_text s) ≡ s
unfolding after_lines
refused-rest s rows e h = ap (after_lines 1) (clean-refused s rows e h) ∙ line_after (answer-line (code_of (sheet_answer rows))) 0 s

-- ---- accepted: a line for each change and ten more, and the last ten are the cleaned sheet
module _ (s : List ℕ) (rows : List (List ℤ)) (e : reading s ≡ sheet rows) (z : code_of (sheet_answer rows) ≡ 0) where
  pub accepted-lines : feeds (clean_text s) ≡ length (changes rows (cleaned_rows rows)) + 10
  unfolding cleaned_rows sections_of
  accepted-lines =
      ap feeds (clean-accepted s rows e z)
      ∙ changes-feeds (changes rows (cleaned_rows rows)) (sheet_text (cleaned_rows rows))
      ∙ ap (λ (n : ℕ). length (changes rows (cleaned_rows rows)) + n) (sheet-feeds (cleaned_rows rows))

  pub last-ten : last_lines 10 (clean_text s) ≡ sheet_text (cleaned_rows rows)
  last-ten = ap (last_lines 10) (clean-accepted s rows e z) ∙ cleaned-last rows (changes rows (cleaned_rows rows))

  -- cleaned again they stay
  pub last-again : clean_text (last_lines 10 (clean_text s)) ≡ last_lines 10 (clean_text s)
  last-again = ap clean_text last-ten ∙ clean-again s rows e z ∙ sym last-ten

  -- `sheet` prints the same for them as for what came
  pub last-page : (rule : Rule) → sheet_page rule (last_lines 10 (clean_text s)) ≡ sheet_page rule s
  last-page rule = ap (sheet_page rule) last-ten ∙ same-page s rows e rule

-- .. and they are the same for two byte strings that are read as sheets equal in everything that counts, the first of which is accepted: after
-- the lines of their changes, which may differ, the same is printed for both
pub same-last : (s t : List ℕ) (rows others : List (List ℤ)) (p q : List ℤ) → reading s ≡ sheet rows → reading t ≡ sheet others
    → Agree (sheet_call rows) (samples_in rows) p (sheet_call others) (samples_in others) q → code_of (sheet_answer rows) ≡ 0
    → last_lines 10 (clean_text s) ≡ last_lines 10 (clean_text t)
same-last s t rows others p q e f h z =
    last-ten s rows e z
    ∙ same_text rows others p q h z
    ∙ sym (last-ten t others f (same-accepted rows others p q h z))
