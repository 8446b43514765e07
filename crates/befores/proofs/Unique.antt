-- The contract leaves one outcome: two that meet it have equal results, and every row is left with equal words. Assumes nothing.
use mathlib.Core.Path.{◌≡◌, sym, ◌∙◌, ap}
use mathlib.Core.List.{List}
use lib.IntN.{ℤ}
use Rattle.path.specs.declared.structs.Frame.{Frame}
use Rattle.path.proofs.Parts.{work_of}
use Rattle.steps.specs.Frame.{Whitened}
use Rattle.befores.proofs.before.before.Reads as before

-- the code's struct of a frame in work, with the pulses that its paths have chosen and the gain before
abbrev frame_of : Whitened → List (List ℤ) → ℤ → Frame
frame_of t chosen prev = record { work = work_of t.run chosen; sLTP = t.sLTP; prev = prev }

-- two are equal where their words are
all-words : {t u : Whitened} {x y : List (List ℤ)} {p q : ℤ} → t ≡ u → x ≡ y → p ≡ q → frame_of t x p ≡ frame_of u y q
all-words a b c = cc

-- all that the frame works on, and the pulses at exit
pub before-unique : (κs a r s e f : _) → before.Post κs a r e → before.Post κs a s f → (e.0.now ≡ f.0.now) × (e.1.0.now ≡ f.1.0.now)
before-unique κs a r s e f p q =
    let same = p.0 ∙ sym q.0 in
    let k = p.1 in
    let l = q.1 in
    (all-words same (k.1.0 ∙ sym l.1.0) (k.0 ∙ sym l.0), ap (λ (t : Whitened). t.run.pulses) same)
