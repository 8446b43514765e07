-- Each contract leaves one outcome: the words of what is lent on. Assumes nothing.
use mathlib.Core.Path.{◌≡◌, sym, ◌∙◌}
use Rattle.prefixes.proofs.prefix.first.Reads as first

pub first-unique : (t g κs a r s e : _) → first.Post t g κs a r e → first.Post t g κs a s e → r.now ≡ s.now
first-unique t g κs a r s e p q = p ∙ sym q
