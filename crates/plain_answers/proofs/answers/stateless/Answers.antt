-- `plain_answers::answers::stateless` meets its contract. Assumes nothing.
use mathlib.Core.Path.{sym, ◌∙◌}
use Rattle.plain_answers.proofs.Refused.{stateless-is, stateless-err}
use Rattle.plain_answers.proofs.answers.stateless.Goals as goal

pub unwrap_err-requires : goal.unwrap_err-requires
unwrap_err-requires c = let a = c.args in rw (c.check.ensures ∙ stateless-is a.s _ _ a.gains.now a.lags.now) (stateless-err a.s)

pub returns : goal.returns
returns c = let a = c.args in sym c.unwrap_err.ensures ∙ c.check.ensures ∙ stateless-is a.s _ _ a.gains.now a.lags.now
