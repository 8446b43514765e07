-- Any two outcomes that a public function's contract allows are equal: each contract leaves one, count and bytes. Assumes nothing.
use mathlib.Core.Path.{◌≡◌, sym, ◌∙◌}
use Rattle.pages.proofs.Unique.{Alike, added-once, parts}
use Rattle.sheet_text.proofs.text.number_line.Reads as number-line
use Rattle.sheet_text.proofs.text.value_lines.Reads as value-lines
use Rattle.sheet_text.proofs.text.answer.Reads as answer
use Rattle.sheet_text.proofs.text.fault.Reads as fault

-- of a number, and of a row of numbers, of any type that can be printed
pub number-line-unique : (T l c N n C m κs a r s e f : _) → number-line.Post T l c N n C m κs a r e → number-line.Post T l c N n C m κs a s f → Alike e.0.now f.0.now
number-line-unique T l c N n C m κs a r s e f p q = added-once _ _ _ _ p q

pub value-lines-unique : (T l c N n C m κs a r s e f : _) → value-lines.Post T l c N n C m κs a r e → value-lines.Post T l c N n C m κs a s f → Alike e.0.now f.0.now
value-lines-unique T l c N n C m κs a r s e f p q = added-once _ _ _ _ p q

pub answer-unique : (κs a r s e f : _) → answer.Post κs a r e → answer.Post κs a s f → (r ≡ s) × (e.0.now ≡ f.0.now)
answer-unique κs a r s e f p q = parts r s _ _ (p ∙ sym q)

pub fault-unique : (κs a r s e f : _) → fault.Post κs a r e → fault.Post κs a s f → (r ≡ s) × (e.0.now ≡ f.0.now)
fault-unique κs a r s e f p q = parts r s _ _ (p ∙ sym q)
