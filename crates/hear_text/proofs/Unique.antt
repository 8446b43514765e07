-- Any two outcomes that the contract allows are equal, count and bytes. Assumes nothing.
use mathlib.Core.Path.{◌≡◌, sym, ◌∙◌}
use Rattle.pages.proofs.Unique.{parts}
use Rattle.hear_text.proofs.hear.hear.Reads as hear

pub hear-unique : (κs a r s e f : _) → hear.Post κs a r e → hear.Post κs a s f → (r ≡ s) × (e.1.0.now ≡ f.1.0.now)
hear-unique κs a r s e f p q = parts r s _ _ (p ∙ sym q)
