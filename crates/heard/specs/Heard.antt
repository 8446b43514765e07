-- What the far end makes of what a call hands out. Assumes nothing.
use Rattle.std.specs.Prelude.{ℕ, List, ℤ}
use Rattle.fixed.specs.Row.{word}
use Rattle.excitation.specs.Reading.{Heard, heard_row, reading}
use Rattle.steps.specs.Among.{Rule}
use Rattle.steps.specs.Call.{Call}
use Rattle.steps.specs.Entry.{outcome}

-- what the reader leaves, with a lent row: it is given the seed and the pulses that the call hands out, and the two types of its settings
abbrev pub far_end : Rule → Call → List ℤ → List ℤ → List ℤ → Heard
far_end rule c x out row =
    reading (outcome rule c x out).seed c.settings.signalType c.settings.quantOffsetType (outcome rule c x out).pulses row

-- the RFC's value at place h of the frame, for the same
abbrev pub heard_at : Rule → Call → List ℤ → List ℤ → ℕ → ℤ
heard_at rule c x out h =
    word (heard_row (outcome rule c x out).seed c.settings.signalType c.settings.quantOffsetType (outcome rule c x out).pulses) h
