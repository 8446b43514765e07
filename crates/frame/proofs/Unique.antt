-- Each contract leaves one outcome: two that meet it have equal results, and every row is left with equal words.
-- Assumes nothing.
use mathlib.Core.Path.{◌≡◌, sym, ◌∙◌, ap}
use mathlib.Core.List.{List}
use lib.IntN.{ℤ}
use Rattle.path.specs.declared.structs.Frame.{Frame}
use Rattle.path.proofs.Parts.{work_of}
use Rattle.steps.specs.Frame.{Framed}
use Rattle.steps.specs.Lent.{framed_at}
use Rattle.frame.proofs.step.step.Reads as step
use Rattle.frame.proofs.turn.turn.Reads as turn

-- the code's struct of a frame in work, with the pulses that its paths have chosen
abbrev pub frame_of : Framed → List (List ℤ) → Frame
frame_of t chosen = record { work = work_of t.run chosen; sLTP = t.sLTP; prev = t.prev_gain_Q16 }

-- two are equal where their words are
made : {t u : Framed} {x y : List (List ℤ)} → t ≡ u → x ≡ y → frame_of t x ≡ frame_of u y
made a b = cc

-- two frames in work with equal words are equal, and so are the pulses beside them
pub same-frame : {t u : Frame} {x y : List ℤ} → framed_at t x ≡ framed_at u y → t.work.chosen ≡ u.work.chosen → (t ≡ u) × (x ≡ y)
same-frame e c = (made e c, ap (λ (t : Framed). t.run.pulses) e)

-- all that a frame works on, and the pulses at exit
pub step-unique : (κs a r s e f : _) → step.Post κs a r e → step.Post κs a s f → (e.0.now ≡ f.0.now) × (e.1.0.now ≡ f.1.0.now)
step-unique κs a r s e f p q = same-frame (p.0.0 ∙ sym q.0.0) (p.1 ∙ sym q.1)

-- all that a frame works on, and the pulses at exit
pub turn-unique : (κs a r s e f : _) → turn.Post κs a r e → turn.Post κs a s f → (e.0.now ≡ f.0.now) × (e.1.0.now ≡ f.1.0.now)
turn-unique κs a r s e f p q = same-frame (p.0.0 ∙ sym q.0.0) (p.1 ∙ sym q.1)
