-- Each contract leaves one outcome: two that meet it have equal results, and every row is left with equal words.
-- Assumes nothing.
use mathlib.Core.Path.{◌≡◌, sym, ◌∙◌}
use Rattle.path.proofs.Parts.{same-states}
use Rattle.among.proofs.replacement.swap_of.Reads as swap-of
use Rattle.among.proofs.replacement.replaced.Reads as replaced
use Rattle.among.proofs.replacement.moved_over.Reads as moved-over

pub swap-of-unique : (κs a r s e : _) → swap-of.Post κs a r e → swap-of.Post κs a s e → r ≡ s
swap-of-unique κs a r s e p q = p.0 ∙ sym q.0

-- the paths with all their words and the rows of pulses at exit
pub replaced-unique : (κs a r s e f : _) → replaced.Post κs a r e → replaced.Post κs a s f →
    (e.0.now ≡ f.0.now) × (e.1.0.now ≡ f.1.0.now)
replaced-unique κs a r s e f p q = (same-states (p.0 0 ∙ sym (q.0 0)), p.1 ∙ sym q.1)

pub moved-over-unique : (κs a r s e : _) → moved-over.Post κs a r e → moved-over.Post κs a s e → r ≡ s
moved-over-unique κs a r s e p q = p ∙ sym q
