-- `tails::tail::moved_down16` meets its contract. Assumes nothing.
use mathlib.Core.Path.{◌≡◌, ap, ◌∙◌}
use Prim.Native.Nat.{◌+◌, ◌-◌}
use native.Mathlib.Omega.{arith}
use lib.ListN.{drop}
use Rattle.std.proofs.Math.Seq.{paste}
use Rattle.word_steps.specs.Tail.{moved_down}
use Rattle.word_steps.proofs.Moves.{moved}
use Rattle.tails.proofs.tail.moved_down16.Goals as goal

pub returns : goal.returns
unfolding moved_down
returns c =
    let a = c.args in
    let k : (a.s + a.m) - a.s ≡ a.m = omega arith in
    c.copy_within.ensures.after ∙ ap (paste a.row.now 0 (drop a.s a.row.now)) k ∙ moved a.s a.m a.row.now (omega arith)
