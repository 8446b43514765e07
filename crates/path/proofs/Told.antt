-- A signed field is a whole number; read into a local it is bits, which give the number back. One law for each struct names its fields.
use mathlib.Core.Path.{◌≡◌}
use lib.IntN.{ℤ}
use mir.Syntax.{w32}
use mir.Val.{of_z, to_z}
use denote.Laws.{valss}
use denote.Struct.Struct.{AreAll}
use denote.Struct.Declared.{Declared, fields}
use denote.Struct.Laws.{Laws, spells}
use Rattle.fixed.proofs.Fit.{back}
use Rattle.choice.specs.declared.candidate.Choice.{Choice}
use Rattle.choice.specs.contracts.candidate.Choice as choice-type
use Rattle.choice.proofs.candidate.Choice.TheLaws as choice-laws
use Rattle.path.specs.declared.structs.Candidate.{Candidate}
use Rattle.path.specs.contracts.structs.Candidate as candidate-type
use Rattle.path.proofs.structs.Candidate.TheLaws as candidate-laws
use Rattle.path.specs.declared.structs.Path.{Path}
use Rattle.path.specs.contracts.structs.Path as path-type
use Rattle.path.proofs.structs.Path.TheLaws as path-laws
use Rattle.path.specs.declared.structs.Fix.{Fix}
use Rattle.path.specs.contracts.structs.Fix as fix-type
use Rattle.path.proofs.structs.Fix.TheLaws as fix_laws
use Rattle.path.specs.declared.structs.Halves.{Halves}
use Rattle.path.specs.contracts.structs.Halves as halves-type
use Rattle.path.proofs.structs.Halves.TheLaws as halves-laws
use Rattle.path.specs.declared.structs.Common.{Common}
use Rattle.path.specs.contracts.structs.Common as common-type
use Rattle.path.proofs.structs.Common.TheLaws as common-laws
use Rattle.path.specs.declared.structs.Terms.{Terms}
use Rattle.path.specs.contracts.structs.Terms as terms-type
use Rattle.path.proofs.structs.Terms.TheLaws as terms-laws
use Rattle.path.specs.declared.structs.Moved.{Moved}
use Rattle.path.specs.contracts.structs.Moved as moved-type
use Rattle.path.proofs.structs.Moved.TheLaws as moved_laws
use Rattle.path.specs.declared.structs.Sampled.{Sampled}
use Rattle.path.specs.contracts.structs.Sampled as sampled-type
use Rattle.path.proofs.structs.Sampled.TheLaws as sampled-laws

-- what `c.struct_told.given` says of a struct's value
abbrev pub Told : (T : Declared) → Laws T → T.D → Type 0
Told T L x = AreAll (fields T) (T.to x) (valss (fields T) (spells T.parts L) (T.to x))

-- the number that its bits give back
abbrev pub Back : ℤ → Type 0
Back z = to_z w32 (of_z w32 z) ≡ z

pub record CandidateBack (x : Candidate) : Type 0 where
  pub q : Back x.Q_Q10
  pub rd : Back x.RD_Q10
  pub xq : Back x.xq_Q14
  pub lf : Back x.LF_AR_Q14
  pub diff : Back x.Diff_Q14
  pub shp : Back x.sLTP_shp_Q14
  pub exc : Back x.LPC_exc_Q14

pub candidate : (x : Candidate) → Told candidate-type.the_type candidate-laws.the_laws x → CandidateBack x
candidate x t =
    record {
      q = back w32 _ t.0.1;
      rd = back w32 _ t.1.0.1;
      xq = back w32 _ t.1.1.0.1;
      lf = back w32 _ t.1.1.1.0.1;
      diff = back w32 _ t.1.1.1.1.0.1;
      shp = back w32 _ t.1.1.1.1.1.0.1;
      exc = back w32 _ t.1.1.1.1.1.1.0.1;
    }

pub record PathBack (x : Path) : Type 0 where
  pub lf : Back x.LF_AR_Q14
  pub diff : Back x.Diff_Q14
  pub seed : Back x.Seed
  pub init : Back x.SeedInit
  pub rd : Back x.RD_Q10

pub path : (x : Path) → Told path-type.the_type path-laws.the_laws x → PathBack x
path x t =
    record {
      lf = back w32 _ t.1.0.1;
      diff = back w32 _ t.1.1.0.1;
      seed = back w32 _ t.1.1.1.0.1;
      init = back w32 _ t.1.1.1.1.0.1;
      rd = back w32 _ t.1.1.1.1.1.0.1;
    }

pub record FixBack (x : Fix) : Type 0 where
  pub offset : Back x.offset_Q10
  pub lambda : Back x.Lambda_Q10
  pub lf_shp : Back x.LF_shp_Q14
  pub gain : Back x.Gain_Q16
  pub inv : Back x.inv_gain_Q26

pub fix : (x : Fix) → Told fix-type.the_type fix_laws.the_laws x → FixBack x
fix x t =
    record {
      offset = back w32 _ t.1.1.1.1.1.0.1;
      lambda = back w32 _ t.1.1.1.1.1.1.0.1;
      lf_shp = back w32 _ t.1.1.1.1.1.1.1.1.0.1;
      gain = back w32 _ t.1.1.1.1.1.1.1.1.1.0.1;
      inv = back w32 _ t.1.1.1.1.1.1.1.1.1.1.0.1;
    }

pub record HalvesBack (x : Halves) : Type 0 where
  pub warping : Back x.warping_Q16
  pub tilt : Back x.Tilt_Q14
  pub harm : Back x.HarmShapeFIRPacked_Q14

pub halves : (x : Halves) → Told halves-type.the_type halves-laws.the_laws x → HalvesBack x
halves x t =
    record {
      warping = back w32 _ t.0.1;
      tilt = back w32 _ t.1.0.1;
      harm = back w32 _ t.1.1.0.1;
    }

pub record CommonBack (x : Common) : Type 0 where
  pub input : Back x.x_Q10
  pub ltp : Back x.LTP_pred_Q14
  pub n_ltp : Back x.n_LTP_Q14

pub common : (x : Common) → Told common-type.the_type common-laws.the_laws x → CommonBack x
common x t =
    record {
      input = back w32 _ t.0.1;
      ltp = back w32 _ t.1.0.1;
      n_ltp = back w32 _ t.1.1.0.1;
    }

pub record TermsBack (x : Terms) : Type 0 where
  pub input : Back x.x_Q10
  pub ltp : Back x.LTP_pred_Q14
  pub lpc : Back x.LPC_pred_Q14
  pub n_ar : Back x.n_AR_Q14
  pub n_lf : Back x.n_LF_Q14
  pub seed : Back x.Seed

pub terms : (x : Terms) → Told terms-type.the_type terms-laws.the_laws x → TermsBack x
terms x t =
    record {
      input = back w32 _ t.0.1;
      ltp = back w32 _ t.1.0.1;
      lpc = back w32 _ t.1.1.0.1;
      n_ar = back w32 _ t.1.1.1.0.1;
      n_lf = back w32 _ t.1.1.1.1.0.1;
      seed = back w32 _ t.1.1.1.1.1.0.1;
    }

pub record MovedBack (x : Moved) : Type 0 where
  pub n_ar : Back x.n_AR_Q14

pub moved : (x : Moved) → Told moved-type.the_type moved_laws.the_laws x → MovedBack x
moved x t =
    record {
      n_ar = back w32 _ t.1.0.1;
    }

pub record SampledBack (x : Sampled) : Type 0 where
  pub q : Back x.Q_Q10
  pub xq : Back x.Xq_Q14
  pub pred : Back x.Pred_Q15
  pub shape : Back x.Shape_Q14

pub sampled : (x : Sampled) → Told sampled-type.the_type sampled-laws.the_laws x → SampledBack x
sampled x t =
    record {
      q = back w32 _ t.0.1;
      xq = back w32 _ t.1.0.1;
      pred = back w32 _ t.1.1.0.1;
      shape = back w32 _ t.1.1.1.0.1;
    }

pub record ChoiceBack (x : Choice) : Type 0 where
  pub first : Back x.first_level
  pub first_cost : Back x.first_cost
  pub second : Back x.second_level
  pub second_cost : Back x.second_cost

pub choice : (x : Choice) → Told choice-type.the_type choice-laws.the_laws x → ChoiceBack x
choice x t =
    record {
      first = back w32 _ t.0.1;
      first_cost = back w32 _ t.1.0.1;
      second = back w32 _ t.1.1.0.1;
      second_cost = back w32 _ t.1.1.1.0.1;
    }
