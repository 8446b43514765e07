-- What comes of a call is laid into plain rows. Assumes nothing.
use Rattle.std.specs.Prelude.{ℕ, List, set, ℤ, pos, eqb, Result, Ok, Err}
use Rattle.fixed.specs.Iter.{either}
use Rattle.refusal_rules.specs.declared.answer.Refusal.{Refusal}
use Rattle.refusal_rules.specs.Code.{Answer, Accepted, code_of}
use Rattle.steps.specs.Entry.{Outcome}
use Rattle.plain_rows.specs.Layout.{words_of}

-- what comes back beside the rows: accepted, the report; refused, why
abbrev pub Replied : Type 0
Replied = Result ℤ Refusal

-- the answer in it
abbrev pub answer_of : Replied → Answer
answer_of (Ok k) = Accepted
answer_of (Err why) = Err why

-- the report in it; refused, 0
abbrev pub report_of : Replied → ℤ
report_of (Ok k) = k
report_of (Err why) = pos 0

-- what `nsq_del_dec` leaves: document 01's number, and the rows of settings, samples, words and pulses
pub record Left : Type 0 where
  pub number : ℕ
  pub settings : List ℤ
  pub samples : List ℤ
  pub words : List ℤ
  pub pulses : List ℤ

-- the five together
abbrev pub left_of : ℕ → List ℤ → List ℤ → List ℤ → List ℤ → Left
left_of k settings samples words out = record { number = k; settings = settings; samples = samples; words = words; pulses = out }

-- what the entry makes of a call, laid into the rows: accepted, the seed stands at place 9 of the settings and the state in its two rows;
-- refused, these three stay as they were
unfoldable pub laid : List ℤ → List ℤ → List ℤ → Outcome → Left
laid settings samples words o =
    either (eqb (code_of o.answer) 0)
    (left_of (code_of o.answer) (set settings 9 o.seed) o.state.xq (words_of o.state) o.pulses)
    (left_of (code_of o.answer) settings samples words o.pulses)
