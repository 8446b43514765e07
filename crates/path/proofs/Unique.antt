-- Each contract leaves one outcome: two that meet it have equal results, and every row is left with equal words.
-- Assumes nothing.
use mathlib.Core.Path.{◌≡◌, sym, ◌∙◌, ap}
use Rattle.path.specs.Taken.{Whole}
use Rattle.path.proofs.structs.Candidate.zero.Reads as zero
use Rattle.path.proofs.structs.Candidate.of.Reads as of
use Rattle.path.proofs.structs.Candidate.raised.Reads as raised
use Rattle.path.proofs.structs.Path.moved.Reads as moved
use Rattle.path.proofs.structs.Path.pair.Reads as pair
use Rattle.path.proofs.structs.Path.taken.Reads as taken
use Rattle.path.proofs.structs.Path.scaled.Reads as scaled
use Rattle.path.proofs.structs.States.of.Reads as states-of
use Rattle.path.proofs.structs.Work.of.Reads as work-of
use Rattle.path.proofs.scaled.scaled_words.Reads as scaled-words

pub zero-unique : (κs a r s e : _) → zero.Post κs a r e → zero.Post κs a s e → r ≡ s
zero-unique κs a r s e p q = p ∙ sym q

pub of-unique : (κs a r s e : _) → of.Post κs a r e → of.Post κs a s e → r ≡ s
of-unique κs a r s e p q = p ∙ sym q

pub raised-unique : (κs a r s e : _) → raised.Post κs a r e → raised.Post κs a s e → r ≡ s
raised-unique κs a r s e p q = p ∙ sym q

pub moved-unique : (κs a r s e : _) → moved.Post κs a r e → moved.Post κs a s e → r ≡ s
moved-unique κs a r s e p q = p ∙ sym q

pub pair-unique : (κs a r s e : _) → pair.Post κs a r e → pair.Post κs a s e → r ≡ s
pair-unique κs a r s e p q = p ∙ sym q

-- a path with all its words: the path, its LPC words, its rings
parts : {t u : Whole} → t ≡ u → (t.own ≡ u.own) × (t.lpc ≡ u.lpc) × (t.ring ≡ u.ring)
parts e = (ap (λ (t : Whole). t.own) e, ap (λ (t : Whole). t.lpc) e, ap (λ (t : Whole). t.ring) e)

pub taken-unique : (κs a r s e f : _) → taken.Post κs a r e → taken.Post κs a s f →
    (r ≡ s) × (e.1.0.now ≡ f.1.0.now) × (e.1.1.0.now ≡ f.1.1.0.now)
taken-unique κs a r s e f p q = parts (p ∙ sym q)

pub scaled-unique : (κs a r s e f : _) → scaled.Post κs a r e → scaled.Post κs a s f →
    (r ≡ s) × (e.1.0.now ≡ f.1.0.now) × (e.1.1.0.now ≡ f.1.1.0.now)
scaled-unique κs a r s e f p q = parts (p ∙ sym q)

pub scaled-words-unique : (κs a r s e f : _) → scaled-words.Post κs a r e → scaled-words.Post κs a s f → e.0.now ≡ f.0.now
scaled-words-unique κs a r s e f p q = p ∙ sym q

-- of rows of whatever types
pub states-of-unique : (L R c d e f κs a r s x y : _) → states-of.Post L R c d e f κs a r x → states-of.Post L R c d e f κs a s y → r ≡ s
states-of-unique L R c d e f κs a r s x y p q = p ∙ sym q

pub work-of-unique : (C d e κs a r s x y : _) → work-of.Post C d e κs a r x → work-of.Post C d e κs a s y → r ≡ s
work-of-unique C d e κs a r s x y p q = p ∙ sym q
