-- What the program `sheet` prints for any bytes: docs/RULES.md, "The call sheet". The bytes are read; a fault is printed by its number; else the
-- call of the sheet is made from a fresh state, and what comes of it is printed. Assumes nothing.
use Rattle.std.specs.Prelude.{ℕ, List}
use Rattle.refusal_rules.specs.Code.{code_of}
use Rattle.steps.specs.Among.{Rule}
use Rattle.steps.specs.Entry.{Outcome}
use Rattle.sheet_form.specs.Sections.{Reading, fault, sheet, reading}
use Rattle.sheet_text.specs.Text.{answer_text, fault_text}
use Rattle.sheet_page.specs.Calls.{sheet_outcome}

-- the text of what comes of a call: its number, and after number 0 the seed and the pulses
unfoldable pub outcome_text : Outcome → List ℕ
outcome_text o = answer_text (code_of o.answer) o.seed o.pulses

-- the text of what the bytes are found to be
unfoldable pub found_page : Rule → Reading → List ℕ
found_page rule (fault k) = fault_text k
found_page rule (sheet rows) = outcome_text (sheet_outcome rule rows)

-- the text for the bytes s
unfoldable pub sheet_page : Rule → List ℕ → List ℕ
sheet_page rule s = found_page rule (reading s)
