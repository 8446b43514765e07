-- Each public function's contract leaves one outcome: any two results that it allows are equal. Stated over the contracts as the checker
-- reads them, so that these theorems cannot drift from the code. Assumes nothing.
use mathlib.Core.Path.{◌≡◌, ◌∙◌, sym}
use Rattle.setting_limits.proofs.settings.outside.Reads as outside
use Rattle.setting_limits.proofs.settings.lengths_refused.Reads as lengths-refused
use Rattle.setting_limits.proofs.settings.orders_refused.Reads as orders-refused
use Rattle.setting_limits.proofs.settings.paths_refused.Reads as paths-refused
use Rattle.setting_limits.proofs.settings.kinds_refused.Reads as kinds-refused

pub outside-unique : (κs a r s e : _) → outside.Post κs a r e → outside.Post κs a s e → r ≡ s
outside-unique κs a r s e p q = p ∙ sym q

pub lengths-refused-unique : (κs a r s e : _) → lengths-refused.Post κs a r e → lengths-refused.Post κs a s e → r ≡ s
lengths-refused-unique κs a r s e p q = p ∙ sym q

pub orders-refused-unique : (κs a r s e : _) → orders-refused.Post κs a r e → orders-refused.Post κs a s e → r ≡ s
orders-refused-unique κs a r s e p q = p ∙ sym q

pub paths-refused-unique : (κs a r s e : _) → paths-refused.Post κs a r e → paths-refused.Post κs a s e → r ≡ s
paths-refused-unique κs a r s e p q = p ∙ sym q

pub kinds-refused-unique : (κs a r s e : _) → kinds-refused.Post κs a r e → kinds-refused.Post κs a s e → r ≡ s
kinds-refused-unique κs a r s e p q = p ∙ sym q
