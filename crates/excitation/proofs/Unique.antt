-- Each public contract leaves one outcome. Assumes nothing.
use mathlib.Core.Path.{◌≡◌, sym, ◌∙◌, ap}
use Rattle.excitation.specs.Reading.{Heard}
use Rattle.excitation.proofs.answer.number.Reads as number
use Rattle.excitation.proofs.reader.excitation.Reads as excitation

pub number-unique : (κs a r s e : _) → number.Post κs a r e → number.Post κs a s e → r ≡ s
number-unique κs a r s e p q = p ∙ sym q

-- for every seed, type and row the answer and the row are the same
pub excitation-unique : (κs a r s e f : _) → excitation.Post κs a r e → excitation.Post κs a s f → (r ≡ s) × (e.1.1.1.1.0.now ≡ f.1.1.1.1.0.now)
excitation-unique κs a r s e f p q = let same = p ∙ sym q in (ap (λ (h : Heard). h.answer) same, ap (λ (h : Heard). h.row) same)
