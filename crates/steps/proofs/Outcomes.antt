-- The outcome of a call and its report, taken apart: number 0 is the frame's, and the call is good; every other number leaves all as it was, and
-- reports 0. Assumes nothing.
use Prim.Native.Nat.{◌<◌}
use native.Mathlib.Omega.{arith}
use mathlib.Core.Path.{◌≡◌, refl}
use mathlib.Core.List.{List}
use lib.IntN.{ℤ}
use borrow.Author.Tests.{ne_eqb}
use Rattle.steps.specs.Among.{Rule}
use Rattle.refusal_rules.specs.Code.{Answer, code_of}
use Rattle.refusal_rules.specs.Good.{Good}
use Rattle.refusal_rules.proofs.Accept.{good}
use Rattle.refusal_rules.proofs.Matched.{code-accepted}
use Rattle.steps.specs.Call.{Call}
use Rattle.steps.specs.Frame.{frame}
use Rattle.steps.specs.Entry.{answered, outcome_by, outcome, taken, untouched}
use Rattle.steps.specs.Report.{frame_report, report_by}
use Rattle.steps.specs.Sizes.{sizes_of}

-- by its answer
pub outcome-is : (rule : Rule) (c : Call) (x out : List ℤ) → outcome rule c x out ≡ outcome_by rule c x out (answered c x out)
unfolding outcome
outcome-is rule c x out = refl

-- number 0: the call has all that its settings, lengths, gains and lags are tested for
pub accepted-good : (c : Call) (x out : List ℤ) → code_of (answered c x out) ≡ 0
    → Good c.settings (sizes_of c x out) c.state.lagPrev c.state.prev_gain_Q16 c.Gains_Q16 c.pitchL
unfolding answered
accepted-good c x out e =
    good c.settings (sizes_of c x out) c.state.lagPrev c.state.prev_gain_Q16 c.Gains_Q16 c.pitchL (code-accepted _ e)

-- number 0: pulses, seed and state of the frame
pub accepted-by : (rule : Rule) (c : Call) (x out : List ℤ) (a : Answer) → code_of a ≡ 0 → outcome_by rule c x out a ≡ taken a (frame rule c x out)
unfolding outcome_by
accepted-by rule c x out a e = rw e

-- another number: pulses, seed and state as given
pub refused-by : (rule : Rule) (c : Call) (x out : List ℤ) (a : Answer) → 0 < code_of a → outcome_by rule c x out a ≡ untouched a c out
unfolding outcome_by
refused-by rule c x out a h = rw (ne_eqb (code_of a) 0 (λ e. omega arith))

-- number 0: the report of the frame
pub accepted-report : (rule : Rule) (c : Call) (x out : List ℤ) (a : Answer) → code_of a ≡ 0 → report_by rule c x out a ≡ frame_report rule c x out
unfolding report_by
accepted-report rule c x out a e = rw e

-- another number: 0
pub refused-report : (rule : Rule) (c : Call) (x out : List ℤ) (a : Answer) → 0 < code_of a → report_by rule c x out a ≡ 0
unfolding report_by
refused-report rule c x out a h = rw (ne_eqb (code_of a) 0 (λ e. omega arith))
