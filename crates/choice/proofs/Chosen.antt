-- How the fields of `Choice` are read back. Assumes nothing.
use mir.Syntax.{w32}
use Rattle.fixed.proofs.Fit.{back}
use Rattle.choice.specs.declared.candidate.Choice.{Choice}
use Rattle.choice.specs.contracts.candidate.Choice as choice-type
use Rattle.choice.proofs.candidate.Choice.TheLaws as choice-laws
use Rattle.levels.proofs.Laws.{Told, Back}

-- what `struct_told` says of a `Choice`
pub record ChoiceBack (x : Choice) : Type 0 where
  pub first_level : Back x.first_level
  pub first_cost : Back x.first_cost
  pub second_level : Back x.second_level
  pub second_cost : Back x.second_cost

pub chosen : (x : Choice) → Told choice-type.the_type choice-laws.the_laws x → ChoiceBack x
chosen x t =
    record { first_level = back w32 _ t.0.1; first_cost = back w32 _ t.1.0.1; second_level = back w32 _ t.1.1.0.1; second_cost = back w32 _ t.1.1.1.0.1 }
