-- `path::scaled::scaled_words` meets its contract. Assumes nothing.
use mathlib.Core.Path.{◌≡◌}
use native.Mathlib.Omega.{arith}
use Rattle.fixed.proofs.Fit.{read}
use Rattle.path.specs.Scaled.{scaled_words}
use Rattle.path.proofs.scaled.scaled_words.Goals as goal

pub returns : goal.returns
unfolding scaled_words
returns c =
    let e : c.loop-j.j ≡ c.args.m = omega arith in
    rw (← e) (simp (read c.ranges.adj) at c.loop-j.invariant.1.1)
