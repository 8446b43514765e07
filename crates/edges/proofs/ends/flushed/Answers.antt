-- `edges::ends::flushed` meets its contract. Assumes nothing.
use mathlib.Core.Path.{◌≡◌, ap, ◌∙◌}
use Prim.Native.Nat.{ℕ}
use native.Mathlib.Omega.{arith}
use lib.ListN.{length-set}
use mir.Syntax.{w8, w16, w32}
use Rattle.fixed.proofs.Fit.{back}
use Rattle.fixed.specs.Iter.{iter}
use Rattle.fixed.proofs.Iters.{iter-more}
use Rattle.noise.specs.Output.{pulse_of}
use Rattle.steps.specs.Flush.{flushed, flush_turn, flush_at, outs}
use Rattle.edges.specs.Fits.{fit_by}
use Rattle.edges.proofs.ends.flushed.Goals as goal

pub loop-i-preserved : goal.loop-i-preserved
unfolding flush_at
loop-i-preserved c =
    let a = c.args in
    let o = c.loop-i in
    let vx = back w32 c.ring_at-x.result c.ring_at-x.type_inv ∙ c.ring_at-x.ensures in
    let vs = back w32 c.ring_at-shape.result c.ring_at-shape.type_inv ∙ c.ring_at-shape.ensures in
    let vq = back w32 c.ring_at-q.result c.ring_at-q.type_inv ∙ c.ring_at-q.ensures in
    let v1 = back w16 c.fitted.result c.fitted.type_inv ∙ rw vx at c.fitted.ensures in
    let v3 = back w8 c.pulse_of.result c.pulse_of.type_inv ∙ (c.pulse_of.ensures ∙ ap pulse_of vq) in (
      (omega (arith, c.loop-i-test.true), simp length-set o.invariant.0.1),
      simp (v1, vs, v3)
          (iter-more (flush_turn a.h a.ring.now (fit_by a.fit) a.d a.g a.r) _ (outs o.xq o.shp o.pulses) _ o.invariant.1),
    )

pub returns : goal.returns
unfolding flushed
returns c =
    let a = c.args in
    let e : c.loop-i.i ≡ a.d = omega arith in
    c.loop-i.invariant.1
    ∙ ap (λ (j : ℕ). iter (flush_turn a.h a.ring.now (fit_by a.fit) a.d a.g a.r) j (outs a.xq.now a.shp.now a.pulses.now)) e
