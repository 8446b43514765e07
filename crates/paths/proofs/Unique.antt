-- Each contract leaves one outcome: two that meet it have equal results, and every row is left with equal words.
-- Assumes nothing.
use mathlib.Core.Path.{◌≡◌, sym, ◌∙◌, ap}
use Rattle.path.proofs.Parts.{states_of, same-work}
use Rattle.path.specs.declared.structs.Sampled.{Sampled}
use Rattle.steps.specs.Settled.{Settled}
use Rattle.paths.proofs.common.common.Reads as common
use Rattle.paths.proofs.sample.sample.Reads as sample
use Rattle.paths.proofs.turn.turn.Reads as turn
use Rattle.paths.proofs.subframe.silk_noise_shape_quantizer_del_dec.Reads as del-dec

pub common-unique : (κs a r s e : _) → common.Post κs a r e → common.Post κs a s e → r ≡ s
common-unique κs a r s e p q = p ∙ sym q

-- the code's struct
abbrev sampled_of : Settled → Sampled
sampled_of t = record { Q_Q10 = t.Q_Q10; Xq_Q14 = t.Xq_Q14; Pred_Q15 = t.Pred_Q15; Shape_Q14 = t.Shape_Q14 }

-- what the sample leaves, the paths with all their words and the rows of pulses at exit
pub sample-unique : (κs a r s e f : _) → sample.Post κs a r e → sample.Post κs a s f →
    (r ≡ s) × (e.0.now ≡ f.0.now) × (e.1.0.now ≡ f.1.0.now)
sample-unique κs a r s e f p q =
    let same = p.0 ∙ sym q.0 in (ap sampled_of same, ap (λ (t : Settled). states_of t.ps) same, p.1 ∙ sym q.1)

-- all that a subframe works on, and the pulses at exit
pub turn-unique : (κs a r s e f : _) → turn.Post κs a r e → turn.Post κs a s f → (e.0.now ≡ f.0.now) × (e.1.0.now ≡ f.1.0.now)
turn-unique κs a r s e f p q = same-work (p.0.0 ∙ sym q.0.0) (p.1 ∙ sym q.1)

-- all that a subframe works on, and the pulses at exit
pub silk-noise-shape-quantizer-del-dec-unique : (κs a r s e f : _) → del-dec.Post κs a r e → del-dec.Post κs a s f →
    (e.0.now ≡ f.0.now) × (e.1.0.now ≡ f.1.0.now)
silk-noise-shape-quantizer-del-dec-unique κs a r s e f p q = same-work (p.0.0 ∙ sym q.0.0) (p.1 ∙ sym q.1)
