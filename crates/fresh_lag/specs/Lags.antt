-- A call with another lagPrev in its state, and first frames: calls from a fresh state, as it is and as it was before request E3. Assumes nothing.
use Rattle.std.specs.Prelude.{ℕ, ◌-◌, ◌≡◌, false, List, ℤ, pos}
use Rattle.fixed.specs.Row.{word}
use Rattle.silk.specs.State.{fresh_lag, fresh_state, with_lag}
use Rattle.silk.specs.declared.structs.NsqState.{NsqState}
use Rattle.limits.specs.Count.{nat_z}
use Rattle.refusal_rules.specs.Code.{code_of}
use Rattle.steps.specs.Among.{Rule}
use Rattle.steps.specs.Call.{Call, call_of, voiced_by}
use Rattle.steps.specs.Entry.{answered, outcome}

-- a call from another state
unfoldable pub from : NsqState → Call → Call
from z c =
    call_of c.settings z c.PredCoef_Q12 c.LTPCoef_Q14 c.AR_Q13 c.HarmShapeGain_Q14 c.Tilt_Q14 c.LF_shp_Q14 c.Gains_Q16
    c.pitchL

-- a call with another lagPrev in its state
unfoldable pub lagged : Call → ℤ → Call
lagged c lag = from (with_lag c.state lag) c

-- ---- first frames
-- the lag that a fresh state held before request E3
unfoldable pub old_lag : ℤ
old_lag = pos 0

-- a first frame: a call from a fresh state
unfoldable pub first : Call → Call
first c = from fresh_state c

-- .. and from a fresh state as it was before
unfoldable pub first_before : Call → Call
first_before c = lagged (first c) old_lag

-- the first sample of a first frame whose harmonic term can read something else than silence: there the last of the three words around the place a
-- lag back is the frame's own word 0
unfoldable pub heard_from : ℕ
heard_from = nat_z fresh_lag - 1

-- a first frame comes to what it came to before: the same answer, pulses and seed, and where it is accepted the same state, each word of it. (A refused
-- call hands back the state that it was given, with its own lag.)
pub record Unchanged (rule : Rule) (c : Call) (x p : List ℤ) : Type 0 where
  pub answer : (outcome rule (first c) x p).answer ≡ (outcome rule (first_before c) x p).answer
  pub pulses : (outcome rule (first c) x p).pulses ≡ (outcome rule (first_before c) x p).pulses
  pub seed : (outcome rule (first c) x p).seed ≡ (outcome rule (first_before c) x p).seed
  pub state : code_of (outcome rule (first c) x p).answer ≡ 0 → (outcome rule (first c) x p).state ≡ (outcome rule (first_before c) x p).state

-- .. or it doesn't: a frame that is not voiced, whose harmonic gain in subframe k is not 0, that is accepted, and whose pulse j is another one than before
pub record Changed (rule : Rule) (c : Call) (x p : List ℤ) (k j : ℕ) : Type 0 where
  pub quiet : voiced_by c.settings.signalType ≡ false
  pub gain : word c.HarmShapeGain_Q14 k ≡ pos 0 → ⊥
  pub accepted : code_of (answered (first c) x p) ≡ 0
  pub pulse : word (outcome rule (first c) x p).pulses j ≡ word (outcome rule (first_before c) x p).pulses j → ⊥
