-- What a good call has: everything that its frame asks for. And what owning a state tells of its signed words. Assumes nothing.
use Prim.Native.Nat.{◌*◌, ◌≤◌}
use native.Mathlib.Omega.{arith}
use mathlib.Core.Path.{refl}
use mathlib.Core.List.{List}
use lib.ListN.{length}
use lib.IntN.{ℤ}
use mir.Syntax.{w32}
use Rattle.fixed.proofs.Fit.{back}
use Rattle.silk.specs.declared.structs.NsqState.{NsqState}
use Rattle.silk.specs.contracts.structs.NsqState as state-type
use Rattle.silk.proofs.structs.NsqState.TheLaws as state-laws
use Rattle.path.proofs.Told.{Told, Back}
use Rattle.refusal_rules.specs.Good.{Good}
use Rattle.steps.specs.Call.{Call, given_of, count_of, length_of, Sound, Stocked}
use Rattle.steps.proofs.Sound.{sound-of, stocked-by, counts}
use Rattle.steps.specs.Sizes.{sizes_of}

-- ---- a good call
pub record Ready (c : Call) (x out : List ℤ) : Type 0 where
  pub sound : Sound (given_of c) c.pitchL
  pub stocked : Stocked (given_of c) x c.PredCoef_Q12 c.LTPCoef_Q14 c.AR_Q13 c.Tilt_Q14 c.HarmShapeGain_Q14 c.LF_shp_Q14 c.Gains_Q16 c.pitchL
  pub pulses : count_of c * length_of c ≤ length out

pub ready : (c : Call) (x out : List ℤ) → Good c.settings (sizes_of c x out) c.state.lagPrev c.state.prev_gain_Q16 c.Gains_Q16 c.pitchL → Ready c x out
unfolding sizes_of
ready c x out g =
    let n = counts c.settings c.state.lagPrev c.pitchL in
    record {
      sound = sound-of c g;
      stocked = stocked-by g refl refl refl refl refl refl refl;
      pulses = rw (n.length, n.count) (let e = g.rows.pulses in omega arith);
    }

-- ---- the signed words of a state
pub record StateBack (x : NsqState) : Type 0 where
  pub lf : Back x.sLF_AR_shp_Q14
  pub diff : Back x.sDiff_shp_Q14
  pub lag : Back x.lagPrev
  pub gain : Back x.prev_gain_Q16

pub state : (x : NsqState) → Told state-type.the_type state-laws.the_laws x → StateBack x
state x t =
    let u = t.1.1.1.1 in
    record {
      lf = back w32 _ u.0.1;
      diff = back w32 _ u.1.0.1;
      lag = back w32 _ u.1.1.0.1;
      gain = back w32 _ u.1.1.1.1.1.0.1;
    }
