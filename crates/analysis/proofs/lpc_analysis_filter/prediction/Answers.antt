-- `analysis::lpc_analysis_filter::prediction` meets its contract. Assumes nothing.
use mathlib.Core.Path.{◌≡◌, ◌∙◌}
use native.Mathlib.Omega.{arith}
use lib.IntN.{pos}
use mir.Syntax.{w32}
use mir.Val.{to_z}
use Rattle.fixed.proofs.Fit.{got16, got32}
use Rattle.fixed.proofs.Iters.{iter-more}
use Rattle.word_steps.specs.Filter.{tap, prediction}
use Rattle.std.proofs.Common.{rules}
use Rattle.analysis.proofs.lpc_analysis_filter.prediction.Goals as goal

pub loop-j-preserved : goal.loop-j-preserved
loop-j-preserved c =
    let a = c.args in
    let v = got32 c.mul16.result c.mul16.type_inv ∙ rw (got16 _ c.mul16-arg-1.given, got16 _ c.mul16-arg-in-loop-j-1.given) at c.mul16.ensures in (
      search rules,
      got32 c.add32-out32_Q12.result c.add32-out32_Q12.type_inv ∙ rw v at c.add32-out32_Q12.ensures
          ∙ iter-more (tap a.input.now a.b.now a.ix) c.loop-j.j (to_z w32 c.loop-j.out32_Q12-bits) (pos 0) c.loop-j.invariant.1,
    )

pub returns : goal.returns
unfolding prediction
returns c =
    let e : c.loop-j.j ≡ c.args.order = omega arith in
    rw (← e) c.loop-j.invariant.1
