-- The run that an outcome is made of passes through the frames that specs/Inside.antt reads: for every rule and every call. Assumes nothing.
use Prim.Native.Nat.{ℕ, suc}
use mathlib.Core.Path.{◌≡◌, refl, ◌∙◌}
use mathlib.Core.List.{List}
use lib.IntN.{ℤ}
use Rattle.fixed.specs.Iter.{iter}
use Rattle.refusal_rules.specs.Code.{code_of}
use Rattle.steps.specs.Among.{Rule}
use Rattle.steps.specs.Turn.{turn}
use Rattle.steps.specs.Subframe.{move_back, subframe}
use Rattle.steps.specs.Call.{Call, length_of, count_of, fix_by, fix_of, rows_of}
use Rattle.steps.specs.Frame.{start, coded, step, prior_by, turn_by, subframe_turn, run, ended, frame}
use Rattle.steps.specs.Entry.{answered, outcome, taken}
use Rattle.steps.proofs.Outcomes.{outcome-is, accepted-by}
use Rattle.heard.specs.Inside.{opened, at_sample}

-- before the first sample of a subframe: the subframes before it are coded, and it is opened
pub subframe-opens : (rule : Rule) (c : Call) (x out : List ℤ) (k : ℕ)
    → at_sample rule c x out k 0 ≡ opened c k (iter (subframe_turn rule c x) k (start c out))
unfolding at_sample
subframe-opens rule c x out k = refl

-- from sample to sample: one turn of the definition
pub sample-next : (rule : Rule) (c : Call) (x out : List ℤ) (k i : ℕ)
    → at_sample rule c x out k (suc i) ≡ turn rule (fix_of c k) (rows_of c k) x i (at_sample rule c x out k i)
unfolding at_sample
sample-next rule c x out k i = refl

-- after the last sample of a subframe: the run of the definition, one subframe on, is this frame with its last LPC words moved to the front
pub subframe-closes : (rule : Rule) (c : Call) (x out : List ℤ) (k : ℕ)
    → (iter (subframe_turn rule c x) (suc k) (start c out)).run ≡ move_back (fix_of c k) (at_sample rule c x out k (length_of c))
unfolding at_sample turn_by prior_by step coded subframe fix_by
subframe-closes rule c x out k = refl

-- the outcome of an accepted call is the end of that run, after all its subframes
pub outcome-ends : (rule : Rule) (c : Call) (x out : List ℤ) → code_of (answered c x out) ≡ 0
    → outcome rule c x out ≡ taken (answered c x out) (ended c (iter (subframe_turn rule c x) (count_of c) (start c out)))
unfolding frame run
outcome-ends rule c x out e = outcome-is rule c x out ∙ accepted-by rule c x out (answered c x out) e
