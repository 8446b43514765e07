-- Each contract leaves one outcome: two that meet it have equal results, and every row is left with equal words.
-- Assumes nothing.
use mathlib.Core.Path.{◌≡◌, sym, ◌∙◌}
use Rattle.places.proofs.ring.down.Reads as down

pub down-unique : (κs a r s e : _) → down.Post κs a r e → down.Post κs a s e → r ≡ s
down-unique κs a r s e p q = p.0 ∙ sym q.0
