-- Any two outcomes that a public function's contract allows are equal, count and bytes. Assumes nothing.
use mathlib.Core.Path.{◌≡◌, sym, ◌∙◌}
use Rattle.pages.proofs.Unique.{parts}
use Rattle.wav_page.proofs.page.wav_page.Reads as wav-page
use Rattle.wav_page.proofs.page.whole.Reads as whole

pub wav-page-unique : (κs a r s e f : _) → wav-page.Post κs a r e → wav-page.Post κs a s f → (r ≡ s) × (e.1.0.now ≡ f.1.0.now)
wav-page-unique κs a r s e f p q = parts r s _ _ (p ∙ sym q)

pub whole-unique : (κs a r s e f : _) → whole.Post κs a r e → whole.Post κs a s f → (r ≡ s) × (e.1.1.0.now ≡ f.1.1.0.now)
whole-unique κs a r s e f p q = parts r s _ _ (p.0 ∙ sym q.0)
