-- `shaping::taps::taps` meets its contract. Assumes nothing.
use Prim.Native.Nat.{◌+◌}
use mathlib.Core.Path.{◌∙◌}
use native.Mathlib.Omega.{arith}
use Rattle.fixed.proofs.Iters.{iter-more}
use Rattle.fixed.proofs.Fit.{got32, got16}
use Rattle.shaping.specs.Taps.{tap}
use Rattle.shaping.proofs.taps.taps.Goals as goal

pub loop-k-preserved : goal.loop-k-preserved
loop-k-preserved c =
    let l = c.loop-k in
    let a = c.args in
    let e = rw (got32 _ c.smlawb-arg-1.given, got16 _ c.smlawb-arg-in-loop-k-1.given) at c.smlawb-sum.ensures in (
      omega arith,
      got32 c.smlawb-sum.result c.smlawb-sum.type_inv ∙ e ∙ iter-more (λ j. tap a.row.now a.at a.coef.now (a.from + j)) l.k _ _ l.invariant.1,
    )
