-- Any two outcomes that a public function's contract allows are equal: the count, and every byte, pulse and word. Assumes nothing.
use mathlib.Core.Path.{◌≡◌, sym, ◌∙◌}
use Rattle.pages.proofs.Unique.{parts}
use Rattle.nsq.proofs.Unique.{one-outcome}
use Rattle.sheet_page.proofs.call.words_of.Reads as words_of
use Rattle.sheet_page.proofs.call.pulse_count.Reads as pulse-count
use Rattle.sheet_page.proofs.call.checked.Reads as checked
use Rattle.sheet_page.proofs.call.answered.Reads as answered
use Rattle.sheet_page.proofs.page.answer_page.Reads as answer-page
use Rattle.sheet_page.proofs.page.sheet_page.Reads as sheet-page
use Rattle.sheet_page.proofs.page.whole.Reads as whole

pub words-of-unique : (κs a r s e : _) → words_of.Post κs a r e → words_of.Post κs a s e → r ≡ s
words-of-unique κs a r s e p q = p ∙ sym q

pub pulse-count-unique : (κs a r s e : _) → pulse-count.Post κs a r e → pulse-count.Post κs a s e → r ≡ s
pulse-count-unique κs a r s e p q = p ∙ sym q

pub checked-unique : (κs a r s e : _) → checked.Post κs a r e → checked.Post κs a s e → r ≡ s
checked-unique κs a r s e p q = p ∙ sym q

-- what is handed back, every word of the state in it, and the pulses
pub answered-unique : (κs a r s e f : _) → answered.Post κs a r e → answered.Post κs a s f → (r ≡ s) × (e.1.0.now ≡ f.1.0.now)
answered-unique κs a r s e f p q = one-outcome (p.0 ∙ sym q.0) (p.1 ∙ sym q.1)

pub answer-page-unique : (κs a r s e f : _) → answer-page.Post κs a r e → answer-page.Post κs a s f → (r ≡ s) × (e.0.now ≡ f.0.now)
answer-page-unique κs a r s e f p q = parts r s _ _ (p ∙ sym q)

pub sheet-page-unique : (κs a r s e f : _) → sheet-page.Post κs a r e → sheet-page.Post κs a s f → (r ≡ s) × (e.1.0.now ≡ f.1.0.now)
sheet-page-unique κs a r s e f p q = parts r s _ _ (p ∙ sym q)

pub whole-unique : (κs a r s e f : _) → whole.Post κs a r e → whole.Post κs a s f → (r ≡ s) × (e.1.1.0.now ≡ f.1.1.0.now)
whole-unique κs a r s e f p q = parts r s _ _ (p.0 ∙ sym q.0)
