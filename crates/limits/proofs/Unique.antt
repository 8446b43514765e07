-- Each public function's contract leaves one outcome: any two results that it allows are equal. Stated over the contracts as the checker
-- reads them, so that these theorems cannot drift from the code. Assumes nothing.
use mathlib.Core.Path.{◌≡◌, ◌∙◌, sym}
use Rattle.limits.proofs.count.count.Reads as count
use Rattle.limits.proofs.gains.gains_refused.Reads as gains-refused

pub count-unique : (κs a r s e : _) → count.Post κs a r e → count.Post κs a s e → r ≡ s
count-unique κs a r s e p q = p ∙ sym q

pub gains-refused-unique : (κs a r s e : _) → gains-refused.Post κs a r e → gains-refused.Post κs a s e → r ≡ s
gains-refused-unique κs a r s e p q = p ∙ sym q
