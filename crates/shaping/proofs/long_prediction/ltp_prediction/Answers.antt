-- `shaping::long_prediction::ltp_prediction` meets its contract. Assumes nothing.
use mathlib.Core.Path.{sym, ◌∙◌}
use lib.IntN.{pos}
use Rattle.fixed.proofs.Iters.{iter-add}
use Rattle.fixed.proofs.Fit.{got32}
use Rattle.shaping.specs.Taps.{tap, long_prediction}
use Rattle.shaping.proofs.long_prediction.ltp_prediction.Goals as goal

pub returns : goal.returns
unfolding long_prediction
returns c =
    let a = c.args in
    let sum = c.taps.ensures ∙ sym (iter-add (tap a.row.now a.at a.b.now) 0 5 (pos 2)) in
    got32 c.shl32.result c.shl32.type_inv ∙ rw (got32 c.taps.result c.taps.type_inv, sum) at c.shl32.ensures
