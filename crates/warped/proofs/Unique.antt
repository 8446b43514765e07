-- Each contract leaves one outcome: two results that meet it are equal, and so are the words that a row is left with.
-- Assumes nothing.
use mathlib.Core.Path.{◌≡◌, sym, ◌∙◌}
use Rattle.warped.proofs.warped_filter.warped_filter.Reads as warped-filter

pub warped-filter-unique : (κs a r s e f : _) → warped-filter.Post κs a r e → warped-filter.Post κs a s f → (r ≡ s) × (e.0.now ≡ f.0.now)
warped-filter-unique κs a r s e f p q = (p.0 ∙ sym q.0, p.1 ∙ sym q.1)
