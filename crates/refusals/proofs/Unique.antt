-- Each public function's contract leaves one outcome: any two results that it allows are equal. Stated over the contracts as the checker
-- reads them, so that these theorems cannot drift from the code. Assumes nothing.
use mathlib.Core.Path.{◌≡◌, ◌∙◌, sym}
use Rattle.refusals.proofs.check.check.Reads as check

pub check-unique : (κs a r s e : _) → check.Post κs a r e → check.Post κs a s e → r ≡ s
check-unique κs a r s e p q = p ∙ sym q
