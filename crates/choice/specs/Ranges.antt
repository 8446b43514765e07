-- The ranges in which the choice is made, and what it means that no step of it leaves its machine type.
-- Assumes nothing.
use Rattle.std.specs.Prelude.{◌≡◌, true, ◌⊎◌, ℤ, pos, negsuc, neg_ℤ, nat_abs, ◌+ℤ◌, ◌-ℤ◌, ◌*ℤ◌, ◌≤ℤ◌}
use Rattle.std.specs.Int.Signed.{lt_z, quot_z}
use Rattle.std.specs.Int.{w16, w32}
use Rattle.std.proofs.Common.{SFits}
use Rattle.fixed.specs.Wrap.{wrap16}
use Rattle.choice.specs.declared.candidate.Choice.{Choice}
use Rattle.residuals.specs.Residual.{pulse_of}
use Rattle.choice.specs.RuleChoice.{level_of, lower_of, cost_sum}

-- a residual after its clamp, and an offset from the least to the greatest of the table
pub record InRange (r offset : ℤ) : Type 0 where
  pub low : negsuc 31743 ≤ℤ r
  pub high : r ≤ℤ pos 30720
  pub least : pos 32 ≤ℤ offset
  pub most : offset ≤ℤ pos 240

-- what the branch for Lambda above 2048 works out, for q = residual - offset and d = Lambda / 2 - 512
pub record BranchFits (q d : ℤ) : Type 0 where
  pub bias : SFits w32 d
  pub negated : SFits w32 (neg_ℤ d)
  pub less : SFits w32 (q -ℤ d)
  pub more : SFits w32 (q +ℤ d)

-- what is worked out for a level: the level, its negation and its error are read `as i16`; the two products and their sum are i32
pub record LevelFits (r Lambda level : ℤ) : Type 0 where
  pub itself : SFits w16 level
  pub negated : SFits w16 (neg_ℤ level)
  pub error : SFits w16 (r -ℤ level)
  pub price : SFits w32 (pos (nat_abs level) *ℤ wrap16 Lambda)
  pub square : SFits w32 ((r -ℤ level) *ℤ (r -ℤ level))
  pub sum : SFits w32 (cost_sum Lambda r level)

-- what is worked out for the lower pulse p on the way to its level
pub record PulseFits (p : ℤ) : Type 0 where
  pub scaled : SFits w32 (p *ℤ pos 1024)
  pub less : SFits w32 (p *ℤ pos 1024 -ℤ pos 80)
  pub more : SFits w32 (p *ℤ pos 1024 +ℤ pos 80)

-- no whole number that the choice works out leaves the type that the Rust has for it
pub record NothingWraps (r Lambda offset : ℤ) : Type 0 where
  pub difference : SFits w32 (r -ℤ offset)
  pub branch : lt_z (pos 2048) Lambda ≡ true → BranchFits (r -ℤ offset) (quot_z Lambda (pos 2) -ℤ pos 512)
  pub pulse : PulseFits (lower_of (r -ℤ offset) Lambda)
  pub lower : LevelFits r Lambda (level_of offset (lower_of (r -ℤ offset) Lambda))
  pub upper : LevelFits r Lambda (level_of offset (lower_of (r -ℤ offset) Lambda +ℤ pos 1))

-- the levels of a choice are those of the pulses `first` and `second`, and rounding gives these back
pub record Ordered (offset first second : ℤ) (c : Choice) : Type 0 where
  pub first_level : c.first_level ≡ level_of offset first
  pub second_level : c.second_level ≡ level_of offset second
  pub first_pulse : pulse_of c.first_level ≡ first
  pub second_pulse : pulse_of c.second_level ≡ second

-- the candidates are the neighbours p and p + 1 in either order, and both lie in -32 .. 30
pub record Neighbours (offset p : ℤ) (c : Choice) : Type 0 where
  pub low : negsuc 31 ≤ℤ p
  pub high : (p +ℤ pos 1) ≤ℤ pos 30
  pub order : Ordered offset p (p +ℤ pos 1) c ⊎ Ordered offset (p +ℤ pos 1) p c

-- the least and the greatest cost that any residual, Lambda and offset of the table have, and the order of the two
pub record Costs (c : Choice) : Type 0 where
  pub least : negsuc 1044179 ≤ℤ c.first_cost
  pub order : c.first_cost ≤ℤ c.second_cost
  pub most : c.second_cost ≤ℤ pos 1045828
