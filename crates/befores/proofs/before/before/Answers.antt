-- `befores::before::before` meets its contract. Assumes nothing.
use mathlib.Core.Path.{refl, ◌∙◌}
use mir.Syntax.{w32}
use Rattle.fixed.proofs.Fit.{back}
use Rattle.path.specs.Data.{running}
use Rattle.befores.proofs.Befores.{before-is}
use Rattle.befores.proofs.before.before.Goals as goal

pub returns : goal.returns
returns c =
    let a = c.args in
    let t = a.t.now in
    let u = c.flushed_first.new.w in
    let out = c.flushed_first.new.pulses in
    let gain1 = back w32 a.p.gain1 c.struct_told-1.given.1.0.1 in
    let inv = back w32 a.p.inv c.struct_told-2-1.given.1.1.1.0.1 in
    let prev = back w32 t.prev c.prev-1.given in
    let e1 = rw gain1 at c.flushed_first.ensures in
    let e2 = rw inv at c.whitened_first.ensures in
    let e4 = rw prev at c.regained.ensures in
    record {
      words =
          before-is a.p.again a.p.rewhite a.f a.a.now a.p.gain1 a.p.inv t.prev (running t.work a.pulses.now) t.sLTP u c.regained.new.w out
          c.whitened_first.new.ltp
          c.whitened_first.new.sltp
          e1.words
          e2.row
          e2.work
          (e4.words out);
      kept = (refl, (e4.kept.0 ∙ e1.kept.0, e4.kept.1 ∙ e1.kept.1));
    }
