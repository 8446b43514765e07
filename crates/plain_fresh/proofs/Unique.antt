-- Each contract leaves one outcome, for every row of every length. Assumes nothing.
use mathlib.Core.Path.{◌≡◌, sym, ◌∙◌, ap}
use Rattle.refusal_rules.proofs.Matched.{code-same}
use Rattle.plain_fresh.specs.Fresh.{Freshly}
use Rattle.plain_fresh.proofs.rows.fresh_rows.Reads as fresh

-- the answer and both rows are the same
pub fresh-rows-unique : (κs a r s e f : _) → fresh.Post κs a r e → fresh.Post κs a s f → (r ≡ s) × ((e.0.now ≡ f.0.now) × (e.1.0.now ≡ f.1.0.now))
fresh-rows-unique κs a r s e f p q = let same = p ∙ sym q in (code-same _ _ (ap (λ (o : Freshly). o.number) same), (ap (λ (o : Freshly). o.samples) same, ap (λ (o : Freshly). o.words) same))
