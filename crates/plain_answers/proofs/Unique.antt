-- Each contract leaves one outcome, for every row of every length. Assumes nothing.
use mathlib.Core.Path.{◌≡◌, sym, ◌∙◌}
use Rattle.std.specs.Prelude.{Err}
use Rattle.refusal_rules.specs.declared.answer.Refusal.{Refusal}
use Rattle.refusal_rules.specs.Code.{Answer}
use Rattle.plain_answers.proofs.answers.number.Reads as number
use Rattle.plain_answers.proofs.answers.stateless.Reads as stateless
use Rattle.plain_answers.proofs.answers.stateless_number.Reads as stateless-number

err-same : {r s : Refusal} → ◌≡◌ {A = Answer} (Err r) (Err s) → r ≡ s
err-same e = cc e

pub number-unique : (κs a r s e : _) → number.Post κs a r e → number.Post κs a s e → r ≡ s
number-unique κs a r s e p q = p ∙ sym q

pub stateless-number-unique : (κs a r s e : _) → stateless-number.Post κs a r e → stateless-number.Post κs a s e → r ≡ s
stateless-number-unique κs a r s e p q = p ∙ sym q

pub stateless-unique : (κs a r s e : _) → stateless.Post κs a r e → stateless.Post κs a s e → r ≡ s
stateless-unique κs a r s e p q = err-same (p ∙ sym q)
