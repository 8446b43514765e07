-- `scaling::scale::silk_nsq_del_dec_scale_states` meets its contract. Assumes nothing.
use mathlib.Core.Path.{refl, ap}
use Prim.Native.Nat.{◌*◌}
use Rattle.fixed.proofs.Fit.{read}
use Rattle.path.specs.Data.{Paths, Running}
use Rattle.path.specs.Scaled.{scaled_words}
use Rattle.steps.specs.Scale.{scaled, scaled_work}
use Rattle.scaling.proofs.scale.silk_nsq_del_dec_scale_states.Goals as goal

pub returns : goal.returns
unfolding scaled
returns c =
    let a = c.args in
    let w = a.w.now in
    let f = read c.ranges.adj in
    let u = rw f at c.scaled_words.ensures in
    let v = rw f at c.scaled_work.ensures in
    let p = rw f at c.scaled_paths.ensures in
    record {
      words =
          λ out.
          let put : Paths → Running = λ t. record {
            core = record { ps = t; sLTP_Q15 = scaled_work a.f a.rewhitened a.adj w.sLTP_Q15; delayedGain_Q10 = w.delayedGain_Q10; smpl_buf_idx = w.smpl_buf_idx };
            xq = w.xq;
            sLTP_shp_Q14 = scaled_words a.adj a.f.base (4 * a.f.subfr_length) w.sLTP_shp_Q14;
            pulses = out;
          } in
          rw (u, v) (ap put p);
      kept = (refl, refl);
    }
