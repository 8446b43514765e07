-- Each contract leaves one outcome: two that meet it have equal results, and every row is left with equal words.
-- Assumes nothing.
use mathlib.Core.Path.{◌≡◌, sym, ◌∙◌}
use Rattle.winner.proofs.search.least.Reads as least
use Rattle.winner.proofs.search.first_best.Reads as first-best
use Rattle.winner.proofs.search.worst_first.Reads as worst-first

pub least-unique : (κs a r s e : _) → least.Post κs a r e → least.Post κs a s e → r ≡ s
least-unique κs a r s e p q = p.0 ∙ sym q.0

pub worst-first-unique : (κs a r s e : _) → worst-first.Post κs a r e → worst-first.Post κs a s e → r ≡ s
worst-first-unique κs a r s e p q = p.0 ∙ sym q.0

-- by one order
pub first-best-unique : (T L f a b c d g κs x r s y z : _) → first-best.Post-at T L f a b c d g κs x r y → first-best.Post-at T L f a b c d g κs x s z → r ≡ s
first-best-unique T L f a b c d g κs x r s y z p q = p.0 ∙ sym q.0
