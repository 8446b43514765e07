-- `paths::subframe::moved_back` meets its contract. Assumes nothing.
use mathlib.Core.Path.{◌≡◌, ap, ◌∙◌}
use Prim.Native.Nat.{◌+◌, ◌-◌}
use native.Mathlib.Omega.{arith}
use lib.ListN.{drop}
use Rattle.std.proofs.Math.Seq.{paste}
use Rattle.steps.specs.Subframe.{backed}
use Rattle.word_steps.proofs.Moves.{moved}
use Rattle.paths.proofs.subframe.moved_back.Goals as goal

pub returns : goal.returns
unfolding backed
returns c =
    let a = c.args in
    let k : (a.l + 16) - a.l ≡ 16 = omega arith in
    c.copy_within.ensures.after ∙ ap (paste a.w.now 0 (drop a.l a.w.now)) k ∙ moved a.l 16 a.w.now (omega arith)
