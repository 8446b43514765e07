-- What lent rows hold, for the contracts of code that works on many of them: each name below is one of the definition's records or facts, of the words
-- that the code's structs hold: now, as the call begins or as it ends. Nothing is defined here that isn't there. Assumes nothing.
use Rattle.std.specs.Prelude.{ℕ, ◌+◌, ◌≤◌, List, length, ℤ}
use Rattle.silk.specs.declared.structs.Settings.{Settings}
use Rattle.silk.specs.declared.structs.NsqState.{NsqState}
use Rattle.path.specs.declared.structs.Fix.{Fix}
use Rattle.path.specs.declared.structs.Frame.{Frame}
use Rattle.path.specs.declared.structs.Coefs.{Coefs}
use Rattle.path.specs.Data.{running}
use Rattle.steps.specs.declared.structs.Given.{Given}
use Rattle.steps.specs.declared.structs.Inputs.{Inputs}
use Rattle.steps.specs.Among.{Rule}
use Rattle.steps.specs.Call.{Call, call_of, Stocked}
use Rattle.steps.specs.Carried.{Note, carry_by, carried_by}
use Rattle.steps.specs.Frame.{Framed, framed_of, turn_by, run_by}

-- the words of a lent row
abbrev pub Lent : Type 0
Lent = List ℤ

-- a frame in work: the code's struct, and the pulses beside it
abbrev pub framed_at : Frame → Lent → Framed
framed_at t pulses = framed_of (running t.work pulses) t.sLTP t.prev

-- rows that are long enough for the subframe: 16, 5 and 24 coefficients, samples and pulses up to its end
abbrev pub Supplied : Fix → Coefs → Lent → Lent → Type 0
Supplied f v x pulses =
    ((16 ≤ length v.a.now) × (5 ≤ length v.b.now))
    × ((24 ≤ length v.ar.now) × ((f.base + f.subfr_length ≤ length x) × (f.base + f.subfr_length ≤ length pulses)))

-- a call
abbrev pub call_at : Settings → NsqState → Lent → Lent → Lent → Lent → Lent → Lent → Lent → Lent → Call
call_at s state pred ltp ar harm tilt lf gains lags =
    call_of s state pred ltp ar harm tilt lf gains lags

-- .. whose rows stand in one struct
abbrev pub call_in : Settings → NsqState → Inputs → Call
call_in s state r =
    call_at s state r.pred.now r.long.now r.ar.now r.harm.now r.tilt.now r.lf.now r.gains.now r.lags.now

-- ---- the same of what is said of a call's rows
-- each holds what all subframes read
abbrev pub Stocked_in : Given → Inputs → Type 0
Stocked_in g r =
    Stocked g r.x.now r.pred.now r.long.now r.ar.now r.tilt.now r.harm.now r.lf.now r.gains.now r.lags.now

-- subframe k
abbrev pub turn_in : Rule → Given → Inputs → ℕ → Framed → Framed
turn_in rule g r k t =
    turn_by rule g r.x.now r.pred.now r.long.now r.ar.now r.tilt.now r.harm.now r.lf.now r.gains.now r.lags.now k t

-- n subframes
abbrev pub run_in : Rule → Given → Inputs → ℕ → Framed → Framed
run_in rule g r n t =
    run_by rule g r.x.now r.pred.now r.long.now r.ar.now r.tilt.now r.harm.now r.lf.now r.gains.now r.lags.now n t

-- the rows that the paths carry: subframe k
abbrev pub carry_in : Note → Rule → Given → Inputs → ℕ → Framed → List (List ℤ) → List (List ℤ)
carry_in note rule g r k t rows =
    carry_by note rule g r.x.now r.pred.now r.long.now r.ar.now r.tilt.now r.harm.now r.lf.now r.gains.now r.lags.now k t rows

-- n subframes
abbrev pub carried_on : Note → Rule → Given → Inputs → ℕ → Framed → List (List ℤ) → List (List ℤ)
carried_on note rule g r n t rows =
    carried_by note rule g r.x.now r.pred.now r.long.now r.ar.now r.tilt.now r.harm.now r.lf.now r.gains.now r.lags.now n t rows
