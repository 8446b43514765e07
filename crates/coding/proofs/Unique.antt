-- Each contract leaves one outcome: two that meet it have equal results, and every row is left with equal words.
-- Assumes nothing.
use mathlib.Core.Path.{◌≡◌, sym, ◌∙◌, ap, ap₂}
use Rattle.steps.specs.Frame.{Done}
use Rattle.closing.proofs.Unique.{handed_of}
use Rattle.coding.proofs.accepted.coded.Reads as coded

-- seed, every word of the state, the report, and the pulses at exit
pub coded-unique : (κs a r s e f : _) → coded.Post κs a r e → coded.Post κs a s f → (r ≡ s) × (e.1.1.1.0.now ≡ f.1.1.1.0.now)
coded-unique κs a r s e f p q =
    let same = p.0 ∙ sym q.0 in (ap₂ handed_of same (p.1 ∙ sym q.1), ap (λ (d : Done). d.pulses) same)
