-- What owning a settings record or a state tells of its numbers: each is read back from its bits. A function that reads
-- `s.lagPrev` takes this of `c.struct_told.given`. Assumes nothing.
use mathlib.Core.Path.{◌≡◌}
use lib.IntN.{ℤ}
use mir.Syntax.{w32}
use mir.Val.{of_z, to_z}
use denote.Laws.{valss}
use denote.Struct.Struct.{AreAll}
use denote.Struct.Declared.{Declared, fields}
use denote.Struct.Laws.{Laws, spells}
use Rattle.fixed.proofs.Fit.{back}
use Rattle.silk.specs.declared.structs.Settings.{Settings}
use Rattle.silk.specs.declared.structs.NsqState.{NsqState}
use Rattle.silk.specs.contracts.structs.Settings as settings-type
use Rattle.silk.proofs.structs.Settings.TheLaws as settings-laws
use Rattle.silk.specs.contracts.structs.NsqState as state-type
use Rattle.silk.proofs.structs.NsqState.TheLaws as state-laws

-- what `c.struct_told.given` says of a struct's value
abbrev pub Told : (T : Declared) → Laws T → T.D → Type 0
Told T L x = AreAll (fields T) (T.to x) (valss (fields T) (spells T.parts L) (T.to x))

-- the number that its bits give back
abbrev pub Back : ℤ → Type 0
Back z = to_z w32 (of_z w32 z) ≡ z

pub record SettingsBack (x : Settings) : Type 0 where
  pub subfr_length : Back x.subfr_length
  pub nb_subfr : Back x.nb_subfr
  pub predictLPCOrder : Back x.predictLPCOrder
  pub shapingLPCOrder : Back x.shapingLPCOrder
  pub nStatesDelayedDecision : Back x.nStatesDelayedDecision
  pub warping_Q16 : Back x.warping_Q16
  pub signalType : Back x.signalType
  pub quantOffsetType : Back x.quantOffsetType
  pub NLSFInterpCoef_Q2 : Back x.NLSFInterpCoef_Q2
  pub Seed : Back x.Seed
  pub Lambda_Q10 : Back x.Lambda_Q10
  pub LTP_scale_Q14 : Back x.LTP_scale_Q14

pub settings : (x : Settings) → Told settings-type.the_type settings-laws.the_laws x → SettingsBack x
settings x t =
    let u = t.1.1.1.1.1.1 in
    record {
      subfr_length = back w32 _ t.0.1;
      nb_subfr = back w32 _ t.1.0.1;
      predictLPCOrder = back w32 _ t.1.1.0.1;
      shapingLPCOrder = back w32 _ t.1.1.1.0.1;
      nStatesDelayedDecision = back w32 _ t.1.1.1.1.0.1;
      warping_Q16 = back w32 _ t.1.1.1.1.1.0.1;
      signalType = back w32 _ u.0.1;
      quantOffsetType = back w32 _ u.1.0.1;
      NLSFInterpCoef_Q2 = back w32 _ u.1.1.0.1;
      Seed = back w32 _ u.1.1.1.0.1;
      Lambda_Q10 = back w32 _ u.1.1.1.1.0.1;
      LTP_scale_Q14 = back w32 _ u.1.1.1.1.1.0.1;
    }

pub record StateBack (x : NsqState) : Type 0 where
  pub sLF_AR_shp_Q14 : Back x.sLF_AR_shp_Q14
  pub sDiff_shp_Q14 : Back x.sDiff_shp_Q14
  pub lagPrev : Back x.lagPrev
  pub sLTP_buf_idx : Back x.sLTP_buf_idx
  pub sLTP_shp_buf_idx : Back x.sLTP_shp_buf_idx
  pub prev_gain_Q16 : Back x.prev_gain_Q16
  pub rewhite_flag : Back x.rewhite_flag

pub state : (x : NsqState) → Told state-type.the_type state-laws.the_laws x → StateBack x
state x t =
    let u = t.1.1.1.1 in
    record {
      sLF_AR_shp_Q14 = back w32 _ u.0.1;
      sDiff_shp_Q14 = back w32 _ u.1.0.1;
      lagPrev = back w32 _ u.1.1.0.1;
      sLTP_buf_idx = back w32 _ u.1.1.1.0.1;
      sLTP_shp_buf_idx = back w32 _ u.1.1.1.1.0.1;
      prev_gain_Q16 = back w32 _ u.1.1.1.1.1.0.1;
      rewhite_flag = back w32 _ u.1.1.1.1.1.1.0.1;
    }
