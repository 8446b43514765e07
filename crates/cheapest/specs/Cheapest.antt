-- Request E10: what it means that looking at two candidates loses nothing. Levels and costs are those of docs/RULES.md, "One sample" (`choice`,
-- specs/RuleChoice.antt), over the whole numbers, where nothing wraps; a pulse number is any whole number, however far away.
-- Assumes nothing.
use Rattle.std.specs.Prelude.{ℕ, suc, ◌≡◌, ◌⊎◌, ℤ, pos, negsuc, ◌+ℤ◌, ◌≤ℤ◌}
use Rattle.fixed.specs.Wrap.{wrap32}
use Rattle.choice.specs.declared.candidate.Choice.{Choice}
use Rattle.choice.specs.RuleChoice.{level_of, cost_of, ruled}
use Rattle.path.specs.declared.structs.Candidate.{Candidate}

-- ---- what a pulse costs
-- pulse number p at the residual r, whether it is looked at or not: the cost of its level
unfoldable pub pulse_cost : ℤ → ℤ → ℤ → ℤ → ℤ
pulse_cost r Lambda offset p = cost_of Lambda r (level_of offset p)

-- of a choice: the first candidate is a pulse's, with its level and its cost, and no pulse number at all has a lower cost
pub record Cheapest (r Lambda offset : ℤ) (c : Choice) : Type 0 where
  pub pulse : ℤ
  pub level : c.first_level ≡ level_of offset pulse
  pub cost : c.first_cost ≡ pulse_cost r Lambda offset pulse
  pub least : (p : ℤ) → c.first_cost ≤ℤ pulse_cost r Lambda offset p

-- the same of a candidate of a path whose running cost is rd: its total is rd and its pulse's cost, which no pulse number undercuts
pub record CheapestOf (r Lambda offset rd : ℤ) (c : Candidate) : Type 0 where
  pub pulse : ℤ
  pub level : c.Q_Q10 ≡ level_of offset pulse
  pub total : c.RD_Q10 ≡ wrap32 (rd +ℤ pulse_cost r Lambda offset pulse)
  pub least : (p : ℤ) → pulse_cost r Lambda offset pulse ≤ℤ pulse_cost r Lambda offset p

-- nothing is lost with this Lambda at this offset: by the rule, at each clamped residual
abbrev pub NothingLost : ℤ → ℤ → Type 0
NothingLost Lambda offset = (r : ℤ) → negsuc 31743 ≤ℤ r → r ≤ℤ pos 30720 → Cheapest r Lambda offset (ruled r Lambda offset)

-- ---- for which Lambdas and offsets
-- Lambda is from `least` to `most`
pub record LambdaIn (least most : ℕ) (Lambda : ℤ) : Type 0 where
  pub low : pos least ≤ℤ Lambda
  pub high : Lambda ≤ℤ pos most

-- the greatest that the request names
abbrev pub greatest_modest : ℕ
greatest_modest = 1104

-- those that the request names: nothing is lost
abbrev pub ModestLambda : ℤ → Type 0
ModestLambda = LambdaIn 0 greatest_modest

-- those next to them, up to where the rule's lower candidate is a plain floor: with each of these something is lost
abbrev pub LossyLambda : ℤ → Type 0
LossyLambda = LambdaIn (suc greatest_modest) 2048

-- those above, where the lower candidate is drawn towards zero, as far as Lambda is its own reading as i16: nothing is lost
abbrev pub HighLambda : ℤ → Type 0
HighLambda = LambdaIn 2049 32767

-- all those with which nothing is lost
abbrev pub FairLambda : ℤ → Type 0
FairLambda Lambda = ModestLambda Lambda ⊎ HighLambda Lambda

-- the offsets from -472 to 472, where the levels of -1 and 1, each 944 away, lie no nearer to zero than that of pulse 0. The table has 32, 100
-- and 240
pub record SmallOffset (offset : ℤ) : Type 0 where
  pub low : negsuc 471 ≤ℤ offset
  pub high : offset ≤ℤ pos 472
