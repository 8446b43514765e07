-- Each public function's contract leaves one outcome: any two results that it allows are equal. Assumes nothing.
use mathlib.Core.Path.{◌≡◌, sym, ◌∙◌}
use Rattle.levels.proofs.level.tried.Reads as tried
use Rattle.levels.proofs.lower.lower_pulse.Reads as lower-pulse

pub tried-unique : (κs a r s e : _) → tried.Post κs a r e → tried.Post κs a s e → r ≡ s
tried-unique κs a r s e p q = p ∙ sym q

pub lower-pulse-unique : (κs a r s e : _) → lower-pulse.Post κs a r e → lower-pulse.Post κs a s e → r ≡ s
lower-pulse-unique κs a r s e p q = p ∙ sym q
