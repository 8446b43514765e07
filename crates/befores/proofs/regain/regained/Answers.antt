-- `befores::regain::regained` meets its contract. Assumes nothing.
use mathlib.Core.Path.{refl, ◌∙◌}
use mir.Syntax.{w32}
use mir.Val.{SFits}
use Rattle.fixed.proofs.Fit.{got32, read}
use Rattle.path.proofs.Told.{fix}
use Rattle.limits.proofs.Laws.{same-yes, same-no}
use Rattle.steps.specs.Frame.{regained}
use Rattle.befores.proofs.regain.regained.Goals as goal

pub returns-then-f-prev : goal.returns-then-f-prev
unfolding regained
returns-then-f-prev c =
    let g : SFits w32 c.args.f.Gain_Q16 = record { sfits = c.struct_told-1.given.1.1.1.1.1.1.1.1.1.0.1 } in
    let f = fix c.args.f c.struct_told-then-f-prev-1.given in
    let adj = got32 c.gain_adj_Q16-adj.result c.gain_adj_Q16-adj.type_inv ∙ rw (read c.ranges.prev, f.gain) at c.gain_adj_Q16-adj.ensures in
    let e = c.silk_nsq_del_dec_scale_states.ensures in
    record { words = λ out. rw (same-no g c.ranges.prev c.if-f-prev.true) (rw adj at (e.words out)); kept = e.kept }

pub returns-else-f-prev : goal.returns-else-f-prev
unfolding regained
returns-else-f-prev c =
    let g : SFits w32 c.args.f.Gain_Q16 = record { sfits = c.struct_told-1.given.1.1.1.1.1.1.1.1.1.0.1 } in
    record { words = λ out. rw (same-yes g c.ranges.prev c.if-f-prev.false); kept = (refl, refl) }
