-- Lines of text, part after part. Assumes nothing.
use mathlib.Core.Path.{◌≡◌, refl, sym, ap, ◌∙◌}
use mathlib.Core.List.{List, [], ◌∷◌, ◌++◌, append_assoc, append-nil, map, map-append}
use Prim.Native.Nat.{ℕ, suc, ◌+◌, ◌%◌, ◌<◌}
use native.Mathlib.Omega.{arith}
use lib.ListN.{length, take, get_or}
use lib.Seq.{length-take-le}
use lib.IntN.{ℤ, pos}
use borrow.Author.Tests.{eq-eqb, ne_eqb}
use Rattle.std.proofs.lemmas.List.{take_more, length-map}
use Rattle.pages.specs.Page.{Page, puts}
use Rattle.pages.specs.declared.page.Page.{Page as Lent}
use Rattle.pages.specs.Added.{Added}
use Rattle.sheet_text.specs.Text.{line_of, spaced, section_text, sheet_text, after_pulse, pulse_lines, answer_word, seed_word, accepted_text, answer_text}
use Rattle.pages.specs.Decimal.{decimal, digits}
use Rattle.pages.proofs.Pages.{puts-append, added_none, added_then}

-- a word, a number, a line feed
pub line-added : {p q r t : Lent} (w : List ℕ) (z : ℤ) → Added p w q → Added q (decimal z) r → Added r (10 ∷ []) t → Added p (line_of w z) t
unfolding line_of
line-added w z a b c = added_then (w ++ decimal z) (10 ∷ []) (added_then w (decimal z) a b) c

pub digits_decimal : (n : ℕ) → digits n ≡ decimal (pos n)
unfolding decimal
digits_decimal n = refl

-- what follows a pulse
pub twentieth : (n i : ℕ) → i % 20 ≡ 19 → 10 ≡ after_pulse n i
unfolding after_pulse
twentieth n i e = rw (eq-eqb (i % 20) 19 e)

pub last_pulse : (n i : ℕ) → (i % 20 ≡ 19 → ⊥) → i + 1 ≡ n → 10 ≡ after_pulse n i
unfolding after_pulse
last_pulse n i h e = rw (ne_eqb (i % 20) 19 h, eq-eqb (i + 1) n e)

pub other_pulse : (n i : ℕ) → (i % 20 ≡ 19 → ⊥) → (i + 1 ≡ n → ⊥) → 32 ≡ after_pulse n i
unfolding after_pulse
other_pulse n i h k = rw (ne_eqb (i % 20) 19 h, ne_eqb (i + 1) n k)

-- one number more
pub pulses-more : (n i : ℕ) (zs : List ℤ) (z : ℤ) → pulse_lines n i (zs ++ (z ∷ [])) ≡ pulse_lines n i zs ++ (decimal z ++ (after_pulse n (i + length zs) ∷ []))
unfolding pulse_lines
pulses-more n i [] z = let e : i + 0 ≡ i = omega arith in rw e
pulses-more n i (y ∷ zs) z =
    let e : suc i + length zs ≡ i + suc (length zs) = omega arith in
    rw (pulses-more n (suc i) zs z, e) (sym (append_assoc (decimal y) (after_pulse n i ∷ pulse_lines n (suc i) zs) _))

-- .. of a row of numbers of some type
pub row-more : {X : Type 0} (value : X → ℤ) (n i : ℕ) (xs : List X) (x : X) → i < length xs → x ≡ get_or xs i x
    → pulse_lines n 0 (map value (take (i + 1) xs)) ≡ pulse_lines n 0 (map value (take i xs)) ++ (decimal (value x) ++ (after_pulse n i ∷ []))
row-more value n i xs x h k =
    let e : 0 + length (map value (take i xs)) ≡ i = omega (arith, length-map (take i xs) value, length-take-le i xs) in
    ap (λ (s : List _). pulse_lines n 0 (map value s)) (take_more xs i x h ∙ ap (λ (y : _). take i xs ++ (y ∷ [])) (sym k))
    ∙ ap (pulse_lines n 0) (map-append value (take i xs) (x ∷ []))
    ∙ pulses-more n 0 (map value (take i xs)) (value x)
    ∙ rw e

-- the two answers
pub accepted-text : (number : ℕ) (seed : ℤ) (pulses : List ℤ) → number ≡ 0
    → (line_of answer_word (pos number) ++ line_of seed_word seed) ++ pulse_lines (length pulses) 0 pulses ≡ answer_text number seed pulses
unfolding answer_text accepted_text
accepted-text number seed pulses e = rw e

pub refused-text : (number : ℕ) (seed : ℤ) (pulses : List ℤ) → (number ≡ 0 → ⊥) → line_of answer_word (pos number) ≡ answer_text number seed pulses
unfolding answer_text
refused-text number seed pulses h = rw (ne_eqb number 0 h)

-- ---- a sheet, section after section
-- one number of a section more
pub spaced-more : (zs : List ℤ) (z : ℤ) → spaced (zs ++ (z ∷ [])) ≡ spaced zs ++ (32 ∷ decimal z)
unfolding spaced
spaced-more [] z = ap (λ (s : List ℕ). 32 ∷ s) (append-nil (decimal z))
spaced-more (y ∷ zs) z = ap (λ (s : List ℕ). 32 ∷ s) (ap (λ (s : List ℕ). decimal y ++ s) (spaced-more zs z) ∙ sym (append_assoc (decimal y) (spaced zs) (32 ∷ decimal z)))

-- .. of a row of numbers of some type
pub spaced-row : {X : Type 0} (value : X → ℤ) (i : ℕ) (xs : List X) (x : X) → i < length xs → x ≡ get_or xs i x
    → spaced (map value (take (i + 1) xs)) ≡ spaced (map value (take i xs)) ++ (32 ∷ decimal (value x))
spaced-row value i xs x h k =
    ap (λ (s : List _). spaced (map value s)) (take_more xs i x h ∙ ap (λ (y : _). take i xs ++ (y ∷ [])) (sym k))
    ∙ ap spaced (map-append value (take i xs) (x ∷ []))
    ∙ spaced-more (map value (take i xs)) (value x)

-- a section on its line
pub section-added : {p q r t : Lent} (zs : List ℤ) → Added p (decimal (pos (length zs))) q → Added q (spaced zs) r → Added r (10 ∷ []) t → Added p (section_text zs) t
unfolding section_text
section-added zs a b c = added_then (decimal (pos (length zs)) ++ spaced zs) (10 ∷ []) (added_then (decimal (pos (length zs))) (spaced zs) a b) c

-- the first section, and the others
pub sheet-added : {p q r : Lent} (zs : List ℤ) (rows : List (List ℤ)) → Added p (section_text zs) q → Added q (sheet_text rows) r → Added p (sheet_text (zs ∷ rows)) r
unfolding sheet_text
sheet-added zs rows a b = added_then (section_text zs) (sheet_text rows) a b

pub sheet-none : (p : Lent) → Added p (sheet_text []) p
unfolding sheet_text
sheet-none p = added_none p

-- the sections of two lists, one after the other, on any page
sheet-step : (zs : List ℤ) (rows : List (List ℤ)) (p : Page) → puts (sheet_text (zs ∷ rows)) p ≡ puts (sheet_text rows) (puts (section_text zs) p)
unfolding sheet_text
sheet-step zs rows p = puts-append (section_text zs) (sheet_text rows) p

no-rows : (p : Page) → puts (sheet_text []) p ≡ p
unfolding sheet_text puts
no-rows p = refl

pub rows-puts : (rows more : List (List ℤ)) (p : Page) → puts (sheet_text more) (puts (sheet_text rows) p) ≡ puts (sheet_text (rows ++ more)) p
rows-puts [] more p = ap (puts (sheet_text more)) (no-rows p)
rows-puts (zs ∷ rows) more p = ap (puts (sheet_text more)) (sheet-step zs rows p) ∙ rows-puts rows more (puts (section_text zs) p) ∙ sym (sheet-step zs (rows ++ more) p)
