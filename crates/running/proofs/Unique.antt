-- Each contract leaves one outcome: two that meet it have equal results, and every row is left with equal words.
-- Assumes nothing.
use mathlib.Core.Path.{◌≡◌, sym, ◌∙◌}
use Rattle.frame.proofs.Unique.{same-frame}
use Rattle.running.proofs.run.run.Reads as run

-- all that a frame works on, and the pulses at exit
pub run-unique : (κs a r s e f : _) → run.Post κs a r e → run.Post κs a s f → (e.0.now ≡ f.0.now) × (e.1.0.now ≡ f.1.0.now)
run-unique κs a r s e f p q = same-frame (p.0.0 ∙ sym q.0.0) (p.1 ∙ sym q.1)
