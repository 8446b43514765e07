-- What owning a Given tells of its signed fields: each is read back from its bits. Assumes nothing.
use Rattle.path.proofs.Told.{Told, Back}
use mir.Syntax.{w32}
use Rattle.fixed.proofs.Fit.{back}
use Rattle.steps.specs.declared.structs.Given.{Given}
use Rattle.steps.specs.contracts.structs.Given as given-type
use Rattle.steps.proofs.structs.Given.TheLaws as given-laws

pub record GivenBack (x : Given) : Type 0 where
  pub offset : Back x.offset_Q10
  pub lambda : Back x.Lambda_Q10
  pub scale : Back x.LTP_scale_Q14
  pub warping : Back x.warping_Q16

pub given : (x : Given) → Told given-type.the_type given-laws.the_laws x → GivenBack x
given x t =
    let u = t.1.1.1.1.1.1.1 in
    record {
      offset = back w32 _ u.0.1;
      lambda = back w32 _ u.1.0.1;
      scale = back w32 _ u.1.1.0.1;
      warping = back w32 _ u.1.1.1.0.1;
    }
