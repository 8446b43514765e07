-- `frame::turn::prior_of` meets its contract. Assumes nothing.
use mathlib.Core.Path.{◌∙◌}
use lib.ListN.{get_or}
use lib.IntN.{pos}
use mir.Syntax.{w32}
use Rattle.fixed.proofs.Fit.{back, got32}
use Rattle.steps.specs.Frame.{prior_by}
use Rattle.frame.proofs.turn.prior_of.Goals as goal

pub returns : goal.returns
unfolding prior_by
returns c =
    let w = c.white_gain in
    let gains = c.args.gains.now in
    let inv = got32 w.result w.type_inv ∙ rw (back w32 (get_or gains c.args.k (pos 0)) c.gain-1.given) at w.ensures in
    simp (c.second.ensures, c.rewhites.ensures, inv, back w32 (get_or gains 1 (pos 0)) c.gain1-1.given)
