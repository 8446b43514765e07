-- Each contract leaves one outcome: any two results that it allows are equal. Stated over the contracts as the checker reads them, so that these
-- theorems cannot drift from the code. Assumes nothing.
use mathlib.Core.Path.{◌≡◌, sym, ◌∙◌}
use Rattle.refusal_rules.proofs.answer.Refusal.number.Reads as number

pub number-unique : (κs a r s e : _) → number.Post κs a r e → number.Post κs a s e → r ≡ s
number-unique κs a r s e p q = p ∙ sym q
