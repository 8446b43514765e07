-- The offset table: silk_Quantization_Offsets_Q10 of tables_other.rs, and docs/RULES.md, "One frame", the offset.
-- Assumes nothing.
use Rattle.std.specs.Prelude.{ℕ, ◌/◌, List, [], ◌∷◌, ℤ, pos, get_or}

-- one row for the frames that are not voiced and one for the voiced ones; in each the offset types 0 and 1
abbrev pub silk_Quantization_Offsets_Q10 : List (List ℤ)
silk_Quantization_Offsets_Q10 = (pos 100 ∷ pos 240 ∷ []) ∷ (pos 32 ∷ pos 100 ∷ []) ∷ []

-- row signalType >> 1, and there the offset type
unfoldable pub offset_of : ℕ → ℕ → ℤ
offset_of signalType offset_type = get_or (get_or silk_Quantization_Offsets_Q10 (signalType / 2) []) offset_type (pos 0)
