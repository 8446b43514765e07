-- Each public function's contract leaves one outcome: any two results that it allows are equal. Stated over the contracts as the checker
-- reads them, so that these theorems cannot drift from the code.
use mathlib.Core.Path.{◌≡◌, ◌∙◌, sym}
use Rattle.seeds.proofs.generator.rand.Reads as rand

pub rand-unique : (κs a r s e : _) → rand.Post κs a r e → rand.Post κs a s e → r ≡ s
rand-unique κs a r s e p q = p ∙ sym q
