-- Each contract leaves one outcome: two that meet it have equal results, and every row is left with equal words.
-- Assumes nothing.
use mathlib.Core.Path.{◌≡◌, sym, ◌∙◌}
use mathlib.Core.List.{[]}
use Rattle.path.proofs.Parts.{same-work}
use Rattle.scaling.proofs.scale.filled.Reads as filled
use Rattle.scaling.proofs.scale.silk_nsq_del_dec_scale_states.Reads as scale-states

pub filled-unique : (κs a r s e f : _) → filled.Post κs a r e → filled.Post κs a s f → e.0.now ≡ f.0.now
filled-unique κs a r s e f p q = p ∙ sym q

-- all that a subframe works on, at exit
pub silk-nsq-del-dec-scale-states-unique : (κs a r s e f : _) → scale-states.Post κs a r e → scale-states.Post κs a s f → e.0.now ≡ f.0.now
silk-nsq-del-dec-scale-states-unique κs a r s e f p q = (same-work (p.0 [] ∙ sym (q.0 [])) (p.1.0 ∙ sym q.1.0)).0
