-- Each contract leaves one outcome: two that meet it have equal results, and every row is left with equal words.
-- Assumes nothing.
use mathlib.Core.Path.{◌≡◌, sym, ◌∙◌}
use Rattle.tails.proofs.tail.moved_down16.Reads as moved-down16
use Rattle.tails.proofs.tail.moved_down32.Reads as moved-down32
use Rattle.tails.proofs.tail.words_from.Reads as words-from

pub words-from-unique : (κs a r s e f : _) → words-from.Post κs a r e → words-from.Post κs a s f → r ≡ s
words-from-unique κs a r s e f p q = p ∙ sym q

pub moved-down16-unique : (κs a r s e f : _) → moved-down16.Post κs a r e → moved-down16.Post κs a s f → e.0.now ≡ f.0.now
moved-down16-unique κs a r s e f p q = p ∙ sym q

pub moved-down32-unique : (κs a r s e f : _) → moved-down32.Post κs a r e → moved-down32.Post κs a s f → e.0.now ≡ f.0.now
moved-down32-unique κs a r s e f p q = p ∙ sym q
