-- Request E9: did the handed-out pulses belong to the winner? The report of a call is made of two rows: the pulses that it hands out, and those
-- that the final winner chose itself. Assumes nothing.
use Rattle.std.specs.Prelude.{ℕ, ◌+◌, ◌*◌, List, [], get_or, ℤ, eqb}
use Rattle.fixed.specs.Iter.{iter, either}
use Rattle.fixed.specs.Row.{word}
use Rattle.limits.specs.Count.{same_z}
use Rattle.path.specs.declared.structs.Path.{Path}
use Rattle.refusal_rules.specs.Code.{Answer, code_of}
use Rattle.steps.specs.declared.structs.Given.{Given}
use Rattle.steps.specs.Among.{Rule}
use Rattle.steps.specs.Flush.{best_of}
use Rattle.steps.specs.Call.{Call, length_of, count_of, paths_of}
use Rattle.steps.specs.Frame.{Framed, run_by, run, frame}
use Rattle.steps.specs.Entry.{answered}
use Rattle.steps.specs.Carried.{Note, chosen, carried_by, no_rows, carried_of}

-- ---- at how many places two rows differ
-- one place more
abbrev pub differ_turn : List ℤ → List ℤ → ℕ → ℕ → ℕ
differ_turn s t h m = m + either (same_z (word s h) (word t h)) 0 1

-- of the first n
unfoldable pub differ : List ℤ → List ℤ → ℕ → ℕ
differ s t n = iter (differ_turn s t) n 0

-- ---- the report
-- the row of the path of least running cost, among n
abbrev pub best_row : List Path → ℕ → List (List ℤ) → List ℤ
best_row owns n rows = get_or rows (best_of owns n) []

-- of a frame that begins at t, by what is given and the rows of the call: at how many places the pulses `out` differ from those that the path of
-- least running cost chose itself
abbrev pub report_from : Rule → Given → List ℤ → List ℤ → List ℤ → List ℤ → List ℤ → List ℤ → List ℤ → List ℤ → List ℤ → Framed → List ℤ → ℕ
report_from rule g x pred ltp ar tilt harm lf gains lags t out =
    differ out
    (best_row (run_by rule g x pred ltp ar tilt harm lf gains lags g.nb_subfr t).run.core.ps.owns g.nStates
    (carried_by chosen rule g x pred ltp ar tilt harm lf gains lags g.nb_subfr t no_rows))
    (g.nb_subfr * g.subfr_length)

-- what the final winner noted at each sample of the frame
unfoldable pub winners_row : Note → Rule → Call → List ℤ → List ℤ → List ℤ
winners_row note rule c x out = best_row (run rule c x out).run.core.ps.owns (paths_of c) (carried_of note rule c x out (count_of c))

-- the pulses that it chose itself
abbrev pub winners_own : Rule → Call → List ℤ → List ℤ → List ℤ
winners_own rule c x out = winners_row chosen rule c x out

-- accepted: at how many places of the frame the pulses handed out differ from these
unfoldable pub frame_report : Rule → Call → List ℤ → List ℤ → ℕ
frame_report rule c x out = differ (frame rule c x out).pulses (winners_own rule c x out) (count_of c * length_of c)

-- refused: 0
unfoldable pub report_by : Rule → Call → List ℤ → List ℤ → Answer → ℕ
report_by rule c x out a = either (eqb (code_of a) 0) (frame_report rule c x out) 0

-- the report of a call
unfoldable pub report : Rule → Call → List ℤ → List ℤ → ℕ
report rule c x out = report_by rule c x out (answered c x out)
