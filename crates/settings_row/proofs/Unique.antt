-- The contract leaves one outcome. Assumes nothing.
use mathlib.Core.Path.{◌≡◌, sym, ◌∙◌}
use Rattle.settings_row.proofs.named.settings_of.Reads as settings-of

pub settings-of-unique : (κs a r s e f : _) → settings-of.Post κs a r e → settings-of.Post κs a s f → r ≡ s
settings-of-unique κs a r s e f p q = p ∙ sym q
