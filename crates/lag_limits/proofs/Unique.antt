-- Each public function's contract leaves one outcome: any two results that it allows are equal. Stated over the contracts as the checker
-- reads them, so that these theorems cannot drift from the code. Assumes nothing.
use mathlib.Core.Path.{◌≡◌, ◌∙◌, sym}
use Rattle.lag_limits.proofs.lags.lags_refused.Reads as lags-refused

pub lags-refused-unique : (κs a r s e : _) → lags-refused.Post κs a r e → lags-refused.Post κs a s e → r ≡ s
lags-refused-unique κs a r s e p q = p ∙ sym q
