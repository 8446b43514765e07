-- The call that a sheet stands for, and what comes of it: docs/RULES.md, "The call sheet". A sheet is the numbers of its ten sections, in their
-- order; a section that is not there is empty. Its call starts from a fresh state. Assumes nothing.
use Rattle.std.specs.Prelude.{ℕ, ◌*◌, List, [], get_or, ℤ}
use Rattle.silk.specs.declared.structs.Settings.{Settings}
use Rattle.silk.specs.State.{zeros, fresh_state}
use Rattle.settings_row.specs.Named.{settings_of}
use Rattle.limits.specs.Count.{nat_z}
use Rattle.steps.specs.Among.{Rule}
use Rattle.steps.specs.Call.{Call, call_of}
use Rattle.steps.specs.Entry.{Outcome, answered, outcome}
use Rattle.sheet_form.specs.Sheets.{with_default}
use Rattle.refusal_rules.specs.Code.{Answer}

-- section 1: the twelve settings
abbrev pub settings_in : List (List ℤ) → Settings
settings_in rows = settings_of (get_or rows 0 [])

-- section 2: the samples
abbrev pub samples_in : List (List ℤ) → List ℤ
samples_in rows = get_or rows 1 []

-- the call of sections 1 and 3 to 10, the path count as it stands there
unfoldable pub sheet_call : List (List ℤ) → Call
sheet_call rows =
    call_of (settings_in rows) fresh_state (get_or rows 2 []) (get_or rows 3 []) (get_or rows 4 []) (get_or rows 5 []) (get_or rows 6 []) (get_or rows 7 []) (get_or rows 8 [])
    (get_or rows 9 [])

-- a call with the path count that 0 stands for
unfoldable pub defaulted : Call → Call
defaulted c =
    call_of (with_default c.settings) c.state c.PredCoef_Q12 c.LTPCoef_Q14 c.AR_Q13 c.HarmShapeGain_Q14 c.Tilt_Q14 c.LF_shp_Q14 c.Gains_Q16
    c.pitchL

-- N, which is n times L
unfoldable pub frame_length : Settings → ℕ
frame_length s = nat_z s.nb_subfr * nat_z s.subfr_length

-- the row that is lent for the pulses: N zeros
unfoldable pub pulses_for : Settings → List ℤ
pulses_for s = zeros (frame_length s)

-- the number that a sheet's call gets, as an answer
unfoldable pub sheet_answer : List (List ℤ) → Answer
sheet_answer rows = answered (defaulted (sheet_call rows)) (samples_in rows) (pulses_for (settings_in rows))

-- what comes of a sheet's call
unfoldable pub sheet_outcome : Rule → List (List ℤ) → Outcome
sheet_outcome rule rows = outcome rule (defaulted (sheet_call rows)) (samples_in rows) (pulses_for (settings_in rows))
