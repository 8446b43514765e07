-- What comes of a call from C with a row for its report, for every row of every length: what comes of the call, and the row as it is left.
-- Assumes nothing.
use Rattle.std.specs.Prelude.{ℕ, List, length, set, ℤ, pos, eqb, Err}
use Rattle.fixed.specs.Iter.{either}
use Rattle.steps.specs.Among.{keeps_first}
use Rattle.refusal_rules.specs.declared.answer.Refusal.TheVariants.{Rows}
use Rattle.refusal_rules.specs.Code.{code_of}
use Rattle.steps.specs.Call.{Call}
use Rattle.steps.specs.Report.{report}
use Rattle.settings_row.specs.Named.{settings_of}
use Rattle.plain_fresh.specs.Fresh.{state_fits}
use Rattle.plain_answers.specs.Stateless.{stateless}
use Rattle.plain_laid.specs.Laid.{Left, left_of}
use Rattle.nsq_c.specs.Rows.{called}

-- the number of a call with a row of another length: the lowest of 1 to 4 that the settings give, else 5
unfoldable pub short_number : List ℤ → ℕ
short_number settings = either (eqb (length settings) 12) (code_of (stateless (settings_of settings))) (code_of (Err Rows))

-- the report of a call: the entry's, where settings and state have their lengths; else it is refused, and the report 0
unfoldable pub report_in : List ℤ → List ℤ → List ℤ → Call → List ℤ → List ℤ → ℕ
report_in settings samples words c x out =
    either (eqb (length settings) 12) (either (state_fits samples words) (report keeps_first c x out) 0) 0

-- what `nsq_del_dec_report` leaves: what `nsq_del_dec` leaves, and the row of the report
pub record Reported : Type 0 where
  pub left : Left
  pub report : List ℤ

-- the two together
abbrev pub reported_of : Left → List ℤ → Reported
reported_of l row = record { left = l; report = row }

-- a call that gave l, its report k: accepted, k is the row's one word; refused, the row stays as it was
unfoldable pub with_report : ℕ → List ℤ → Left → Reported
with_report k row l = reported_of l (either (eqb l.number 0) (set row 0 (pos k)) row)

-- the whole: a row of one word, or a row of another length
unfoldable pub reported : List ℤ → List ℤ → List ℤ → Call → List ℤ → List ℤ → List ℤ → Reported
reported settings samples words c x out row =
    either (eqb (length row) 1) (with_report (report_in settings samples words c x out) row (called settings samples words c x out))
    (reported_of (left_of (short_number settings) settings samples words out) row)
