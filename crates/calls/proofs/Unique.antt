-- Each contract leaves one outcome: two that meet it have equal results, and every row is left with equal words.
-- Assumes nothing.
use mathlib.Core.Path.{◌≡◌, sym, ◌∙◌}
use Rattle.path.proofs.Parts.{same-states}
use Rattle.calls.proofs.call.given_of.Reads as given-of
use Rattle.calls.proofs.begin.start_paths.Reads as start-paths
use Rattle.calls.proofs.begin.zero_states.Reads as zero-states

pub given-of-unique : (κs a r s e f : _) → given-of.Post κs a r e → given-of.Post κs a s f → r ≡ s
given-of-unique κs a r s e f p q = p ∙ sym q

-- the paths with all their words
pub zero-states-unique : (κs a r s e f : _) → zero-states.Post κs a r e → zero-states.Post κs a s f → r ≡ s
zero-states-unique κs a r s e f p q = same-states (p ∙ sym q)

-- .. at exit
pub start-paths-unique : (κs a r s e f : _) → start-paths.Post κs a r e → start-paths.Post κs a s f → e.1.1.1.1.1.1.1.0.now ≡ f.1.1.1.1.1.1.1.0.now
start-paths-unique κs a r s e f p q = same-states (p ∙ sym q)
