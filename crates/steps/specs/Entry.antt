-- A call, refused or accepted: docs/RULES.md, demands 1 and 2. Whatever a call is given, `outcome` is what comes of it: its answer, the seed, the
-- state and the pulses, each word of them. Assumes nothing.
use Rattle.std.specs.Prelude.{List, ℤ, pos, eqb, Result, Ok, Err}
use Rattle.fixed.specs.Iter.{either}
use Rattle.silk.specs.declared.structs.NsqState.{NsqState}
use Rattle.steps.specs.Among.{Rule}
use Rattle.refusal_rules.specs.Code.{Answer, Accepted, code_of}
use Rattle.refusal_rules.specs.Table.{answer_of}
use Rattle.steps.specs.Call.{Call}
use Rattle.steps.specs.Sizes.{sizes_of}
use Rattle.steps.specs.Frame.{Done, frame}
use Rattle.steps.specs.declared.structs.Coded.{Coded}
use Rattle.steps.specs.declared.structs.Refused.{Refused}

-- what comes of a call
pub record Outcome : Type 0 where
  pub answer : Answer
  pub seed : ℤ
  pub state : NsqState
  pub pulses : List ℤ

-- the four together
abbrev pub outcome_of : Answer → ℤ → NsqState → List ℤ → Outcome
outcome_of a seed state out = record { answer = a; seed = seed; state = state; pulses = out }

-- its answer, by the table of refusals
unfoldable pub answered : Call → List ℤ → List ℤ → Answer
answered c x out =
    answer_of c.settings (sizes_of c x out) c.state.lagPrev c.state.prev_gain_Q16 c.Gains_Q16 c.pitchL

-- accepted: what the frame hands back
abbrev pub taken : Answer → Done → Outcome
taken a d = outcome_of a d.seed d.state d.pulses

-- refused: the seed and the state given, and the pulses as they were
abbrev pub untouched : Answer → Call → List ℤ → Outcome
untouched a c out = outcome_of a c.settings.Seed c.state out

-- number 0 is accepted, every other number refused
unfoldable pub outcome_by : Rule → Call → List ℤ → List ℤ → Answer → Outcome
outcome_by rule c x out a = either (eqb (code_of a) 0) (taken a (frame rule c x out)) (untouched a c out)

-- the outcome of a call
unfoldable pub outcome : Rule → Call → List ℤ → List ℤ → Outcome
outcome rule c x out = outcome_by rule c x out (answered c x out)

-- ---- what the code hands back of a call
-- accepted, its seed, its state and its report; refused, why, and a seed and a state too
abbrev pub Answered : Type 0
Answered = Result Coded Refused

-- what comes of a call, by what it hands back
abbrev pub handed : Answered → List ℤ → Outcome
handed (Ok c) out = outcome_of Accepted c.seed c.state out
handed (Err r) out = outcome_of (Err r.why) r.seed r.state out

-- its report; refused, 0
abbrev pub reported : Answered → ℤ
reported (Ok c) = c.report
reported (Err r) = pos 0
