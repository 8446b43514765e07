-- `frame::step::step` meets its contract. Assumes nothing.
use mathlib.Core.Path.{ap, ◌∙◌}
use mathlib.Core.List.{List}
use lib.IntN.{ℤ}
use Rattle.path.specs.Data.{Running, running, rows_of_coefs}
use Rattle.steps.specs.Among.{full_copy}
use Rattle.steps.specs.Carried.{chosen, carried_in, carry_step}
use Rattle.path.proofs.Told.{fix}
use Rattle.steps.specs.Frame.{Framed, framed_of, Whitened, whitened_of, coded, step}
use Rattle.frame.proofs.step.step.Goals as goal

pub returns : goal.returns
unfolding step coded carry_step
returns c =
    let a = c.args in
    let gain = (fix a.f c.struct_told-1.given).gain in
    let v = rows_of_coefs a.v in
    let row = c.before-2.new.t.sLTP in
    let after : Whitened → Framed = λ w. coded full_copy a.f v a.x.now w in
    let carried : Whitened → List (List ℤ) → List (List ℤ) = λ w. carried_in chosen full_copy a.f v a.x.now w.run a.f.subfr_length in
    let opened = c.before-2.ensures.words in
    let begun : Whitened = whitened_of (running c.before-2.new.t.work c.before-2.new.pulses) row in
    let sampled = c.silk_noise_shape_quantizer_del_dec.ensures in
    record {
      words = (rw gain (ap (λ (r : Running). framed_of r row a.f.Gain_Q16) sampled.words.0 ∙ ap after opened), (gain, sampled.words.1));
      chosen = sampled.chosen ∙ ap (carried begun) c.before-2.ensures.kept.1.0 ∙ ap (λ (w : Whitened). carried w a.t.now.work.chosen) opened;
    }
