-- Each public function's contract leaves one outcome: any two results that it allows are equal.
-- Assumes nothing.
use mathlib.Core.Path.{◌≡◌, sym, ◌∙◌}
use Rattle.choice.proofs.candidate.candidates.Reads as candidates

pub candidates-unique : (κs a r s e : _) → candidates.Post κs a r e → candidates.Post κs a s e → r ≡ s
candidates-unique κs a r s e p q = p ∙ sym q
