-- What comes of a call from C, for every row of every length: a number, and each row as it is left. Assumes nothing.
use Rattle.std.specs.Prelude.{List, length, ℤ, eqb, Err}
use Rattle.fixed.specs.Iter.{either}
use Rattle.steps.specs.Among.{keeps_first}
use Rattle.refusal_rules.specs.declared.answer.Refusal.TheVariants.{Rows}
use Rattle.refusal_rules.specs.Code.{code_of}
use Rattle.steps.specs.Call.{Call, call_of}
use Rattle.steps.specs.Entry.{outcome}
use Rattle.settings_row.specs.Named.{settings_of}
use Rattle.plain_rows.specs.Layout.{state_of}
use Rattle.plain_fresh.specs.Fresh.{state_fits}
use Rattle.plain_answers.specs.Stateless.{stateless}
use Rattle.plain_laid.specs.Laid.{Left, left_of, laid}
use Rattle.steps.specs.Lent.{Lent}

-- a call with the settings and the state that three rows hold; the others are the entry's own
unfoldable pub called : List ℤ → List ℤ → List ℤ → Call → List ℤ → List ℤ → Left
called settings samples words c x out =
    either (eqb (length settings) 12)
    (either (state_fits samples words)
    (laid settings samples words (outcome keeps_first c x out))
    (left_of (code_of (stateless (settings_of settings))) settings samples words out))
    (left_of (code_of (Err Rows)) settings samples words out)

-- that call
abbrev pub call_in : List ℤ → List ℤ → List ℤ → List ℤ → List ℤ → List ℤ → List ℤ → List ℤ → List ℤ → List ℤ → List ℤ → Call
call_in settings samples words pred ltp ar harm tilt lf gains lags =
    call_of (settings_of settings) (state_of samples words) pred ltp ar harm tilt lf gains lags

-- .. from the rows as they are lent
abbrev pub call_lent : Lent → Lent → Lent → Lent → Lent → Lent → Lent → Lent → Lent → Lent → Lent → Call
call_lent settings samples words pred ltp ar harm tilt lf gains lags =
    call_in settings samples words pred ltp ar harm tilt lf gains lags
