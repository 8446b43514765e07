-- `frame::turn::turn` meets its contract. Assumes nothing.
use native.Mathlib.Omega.{arith}
use Rattle.steps.specs.Call.{rows_by}
use Rattle.steps.specs.Carried.{carry_by}
use Rattle.steps.specs.Frame.{turn_by}
use Rattle.steps.proofs.Sound.{row-few, may_of}
use Rattle.frame.proofs.turn.turn.Goals as goal

pub overflow_mul-from : goal.overflow_mul-from
overflow_mul-from c =
    let few = c.requires.0.0.0.few in
    let row = row-few c.args.g c.args.k (omega (arith, c.requires)) in
    record { fits = omega (arith, c.row_of-from.ensures) }

pub coefs_at-v-requires : goal.coefs_at-v-requires
coefs_at-v-requires c =
    let p = c.requires in
    let m = may_of p.0.0.0 p.0.0.1 p.0.1.0 in
    let few = p.0.0.0.few in
    rw c.row_of-from.ensures ((m.row, m.five), (m.shape, omega (arith, p.0.1.0)))

pub step-requires : goal.step-requires
step-requires c =
    let p = c.requires in
    let m = may_of p.0.0.0 p.0.0.1 p.0.1.0 in
    let out = p.0.1.1 in
    let e = c.coefs_at-v.ensures.enough in
    rw c.fix_of-f.ensures (
      ((m.fits, m.room), (p.1.0, m.gain)),
      (
        ((m.delay, omega (arith, m.two, out)), p.1.1),
        ((e.0, e.1.0), (e.1.1, (m.samples, omega (arith, m.within, out)))),
      ),
    )

pub returns : goal.returns
unfolding turn_by rows_by carry_by
returns c =
    let s = c.step.ensures in
    let p = c.requires in
    let m = may_of p.0.0.0 p.0.0.1 p.0.1.0 in
    let v = rw (c.halves_of-half.ensures, c.row_of-from.ensures) at c.coefs_at-v.ensures.rows in
    record {
      words = (
        rw (c.fix_of-f.ensures, c.prior_of-p.ensures, v) at s.words.0,
        (rw (s.words.1.0, c.fix_of-f.ensures) m.gain, s.words.1.1),
      );
      chosen = rw (c.fix_of-f.ensures, c.prior_of-p.ensures, v) at s.chosen;
    }
