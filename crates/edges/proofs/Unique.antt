-- Each contract leaves one outcome: two that meet it have equal results, and every row is left with equal words.
-- Assumes nothing.
use mathlib.Core.Path.{◌≡◌, sym, ◌∙◌, ap}
use Rattle.steps.specs.Flush.{Outs}
use Rattle.edges.proofs.ends.best.Reads as best
use Rattle.edges.proofs.ends.flushed.Reads as flushed
use Rattle.edges.proofs.ends.others_raised.Reads as others-raised

pub others-raised-unique : (κs a r s e f : _) → others-raised.Post κs a r e → others-raised.Post κs a s f → e.0.now ≡ f.0.now
others-raised-unique κs a r s e f p q = p ∙ sym q

pub best-unique : (κs a r s e f : _) → best.Post κs a r e → best.Post κs a s f → r ≡ s
best-unique κs a r s e f p q = p.0 ∙ sym q.0

-- the histories and the pulses
pub flushed-unique : (κs a r s e f : _) → flushed.Post κs a r e → flushed.Post κs a s f →
    (e.0.now ≡ f.0.now) × (e.1.0.now ≡ f.1.0.now) × (e.1.1.0.now ≡ f.1.1.0.now)
flushed-unique κs a r s e f p q =
    let same = p ∙ sym q in
    (ap (λ (o : Outs). o.xq) same, ap (λ (o : Outs). o.sLTP_shp_Q14) same, ap (λ (o : Outs). o.pulses) same)
