-- `warped::warped_filter::warped_filter` meets its contract. Assumes nothing.
use Prim.Native.Nat.{◌-◌}
use mathlib.Core.Path.{◌≡◌, ap, ◌∙◌}
use native.Mathlib.Omega.{arith}
use mir.Syntax.{w16}
use mir.Val.{to_z, of_z}
use Rattle.fixed.proofs.Iters.{iter-more}
use Rattle.fixed.proofs.Fit.{read, got32, got16}
use Rattle.warped.specs.WarpedFilter.{Filter, turn, write, warped_filter}
use Rattle.warped.proofs.warped_filter.warped_filter.Goals as goal

pub loop-j-preserved : goal.loop-j-preserved
loop-j-preserved c =
    let l = c.loop-j in
    let a = c.args in
    let d = rw (got32 _ c.sub32-arg-1.given) at c.sub32.ensures in
    let t =
    got32 c.smlawb-next.result c.smlawb-next.type_inv
    ∙ rw (got32 _ c.smlawb-arg-in-loop-j-1.given, got32 c.sub32.result c.sub32.type_inv, d) at c.smlawb-next.ensures in
    let n = got32 c.smlawb-n.result c.smlawb-n.type_inv ∙ rw (got16 _ c.smlawb-arg-in-loop-j-2-1.given) at c.smlawb-n.ensures in (
      omega arith,
      rw (t, n) (iter-more (turn a.ar.now (to_z w16 (of_z w16 a.warping))) l.j _ _ l.invariant.1),
    )

pub returns : goal.returns
unfolding warped_filter
returns c =
    let l = c.loop-j in
    let a = c.args in
    let o : l.j ≡ a.order - 1 = omega arith in
    let n = got32 c.smlawb.result c.smlawb.type_inv ∙ rw (got16 _ c.smlawb-arg-2-1.given) at c.smlawb.ensures in
    let e = rw (o, read c.ranges.warping, read c.ranges.diff) at (ap (write a.ar.now l.j) l.invariant.1) in
    record { sum = n ∙ ap (λ (f : Filter). f.n_AR_Q14) e; words = ap (λ (f : Filter). f.sAR2_Q14) e }
