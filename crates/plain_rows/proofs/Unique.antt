-- Each contract leaves one outcome: two that meet it have equal results, and the row is left with equal words. Assumes nothing.
use mathlib.Core.Path.{◌≡◌, sym, ◌∙◌}
use Rattle.plain_rows.proofs.layout.state_of.Reads as state-of
use Rattle.plain_rows.proofs.layout.lay_words.Reads as lay-words
use Rattle.plain_rows.proofs.layout.lay_samples.Reads as lay-samples

pub state-of-unique : (κs a r s e f : _) → state-of.Post κs a r e → state-of.Post κs a s f → r ≡ s
state-of-unique κs a r s e f p q = p ∙ sym q

pub lay-words-unique : (κs a r s e f : _) → lay-words.Post κs a r e → lay-words.Post κs a s f → e.1.0.now ≡ f.1.0.now
lay-words-unique κs a r s e f p q = p ∙ sym q

pub lay-samples-unique : (κs a r s e f : _) → lay-samples.Post κs a r e → lay-samples.Post κs a s f → e.1.0.now ≡ f.1.0.now
lay-samples-unique κs a r s e f p q = p ∙ sym q
