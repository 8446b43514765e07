-- Each contract leaves one outcome: two that meet it have equal results, and every row is left with equal words.
-- Assumes nothing.
use mathlib.Core.Path.{◌≡◌, sym, ◌∙◌}
use Rattle.penalty.proofs.penalties.penalised.Reads as penalised

pub penalised-unique : (κs a r s e : _) → penalised.Post κs a r e → penalised.Post κs a s e → r ≡ s
penalised-unique κs a r s e p q = p ∙ sym q
