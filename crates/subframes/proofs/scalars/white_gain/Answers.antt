-- `subframes::scalars::white_gain` meets its contract. Assumes nothing.
use mathlib.Core.Path.{◌≡◌, ◌∙◌}
use borrow.Author.Tests.{eq-eqb, ne_eqb}
use Rattle.fixed.proofs.Fit.{read, got32}
use Rattle.word_steps.specs.Gains.{inv_gain_Q31}
use Rattle.steps.proofs.Told.{given}
use Rattle.steps.specs.Call.{white_by}
use Rattle.subframes.proofs.scalars.white_gain.Goals as goal

pub returns-then-k-eq0 : goal.returns-then-k-eq0
unfolding white_by
returns-then-k-eq0 c =
    let e : c.inv_gain_Q31-inv31.result ≡ inv_gain_Q31 c.args.gain = rw (read c.ranges.gain) at c.inv_gain_Q31-inv31.ensures in
    rw (eq-eqb c.args.k 0 c.if-k-eq0.true) (got32 c.ltp_scaled_inv_gain.result c.ltp_scaled_inv_gain.type_inv ∙ rw (got32 c.inv_gain_Q31-inv31.result c.inv_gain_Q31-inv31.type_inv, e, (given c.args.g c.struct_told-1.given).scale) at c.ltp_scaled_inv_gain.ensures)

pub returns-else-k-eq0 : goal.returns-else-k-eq0
unfolding white_by
returns-else-k-eq0 c =
    rw (ne_eqb c.args.k 0 c.if-k-eq0.false) (got32 c.inv_gain_Q31-inv31.result c.inv_gain_Q31-inv31.type_inv ∙ rw (read c.ranges.gain) at c.inv_gain_Q31-inv31.ensures)
