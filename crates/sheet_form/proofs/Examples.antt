-- The definition computed on small inputs: the readings of docs/RULES.md, "The call sheet". Assumes nothing.
use mathlib.Core.Path.{◌≡◌, refl}
use mathlib.Core.List.{[], ◌∷◌}
use lib.IntN.{pos, negsuc}
use Rattle.std.specs.Prelude.{Some, None}
use Rattle.sheet_words.specs.Number.{got, bad, separator, in_word, digit, run, skip, word, after_word, value, decimal, magnitude, signed, number_of, within, in_range, and_rest, number}
use Rattle.sheet_form.specs.Sections.{i16, row, section, numbers, and_then, before, or_fault, fault, sections, layout, reading}

-- `-0`, `007`, `-32768`; `+5`, `-`, `5-3`, and an eleventh digit
pub number-words :
    (number_of (45 ∷ 48 ∷ []) ≡ Some (pos 0)) × (number_of (48 ∷ 48 ∷ 55 ∷ []) ≡ Some (pos 7)) × (number_of (45 ∷ 51 ∷ 50 ∷ 55 ∷ 54 ∷ 56 ∷ []) ≡ Some (negsuc 32767))
    × (number_of (43 ∷ 53 ∷ []) ≡ None) × (number_of (45 ∷ []) ≡ None) × (number_of (53 ∷ 45 ∷ 51 ∷ []) ≡ None)
    × (number_of (48 ∷ 48 ∷ 48 ∷ 48 ∷ 48 ∷ 48 ∷ 48 ∷ 48 ∷ 48 ∷ 48 ∷ 53 ∷ []) ≡ None)
unfolding number_of signed magnitude decimal value run digit
number-words = (refl, refl, refl, refl, refl, refl, refl)

-- ` 7 ` is 7 and the rest is one space; a tab is part of its word; 32768 is no i16
pub number-parts :
    (number i16 (32 ∷ 55 ∷ 32 ∷ []) ≡ got (pos 7) (32 ∷ [])) × (number i16 (9 ∷ 55 ∷ []) ≡ bad) × (number i16 (51 ∷ 50 ∷ 55 ∷ 54 ∷ 56 ∷ []) ≡ bad)
unfolding number skip word after_word in_word separator in_range within and_rest number_of signed magnitude decimal value run digit
number-parts = (refl, refl, refl)

-- `2 0 -1`, a row of two; `2 0`, which ends too early; no byte at all is fault 1
pub small-texts :
    (section (row i16) (50 ∷ 32 ∷ 48 ∷ 32 ∷ 45 ∷ 49 ∷ []) ≡ got (pos 0 ∷ negsuc 0 ∷ []) []) × (section (row i16) (50 ∷ 32 ∷ 48 ∷ []) ≡ bad) × (reading [] ≡ fault 1)
unfolding reading sections layout or_fault section numbers and_then before number skip word after_word in_word separator in_range within and_rest number_of signed magnitude decimal value run digit
small-texts = (refl, refl, refl)
