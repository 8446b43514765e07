-- `choice::candidate::candidates` meets its contract. Assumes nothing.
use mathlib.Core.Path.{ap, ◌∙◌}
use Rattle.fixed.proofs.Fit.{read, got32}
use Rattle.levels.proofs.Laws.{pair}
use Rattle.choice.specs.RustChoice.{costed, choice}
use Rattle.choice.proofs.candidate.candidates.Goals as goal

pub returns : goal.returns
unfolding choice costed
returns c =
    let f = c.ranges in
    let v1 = got32 c.sub32.result c.sub32.type_inv ∙ rw (read f.r, read f.offset) at c.sub32.ensures in
    let v2 = got32 c.lower_pulse-p.result c.lower_pulse-p.type_inv ∙ rw (v1, read f.lambda) at c.lower_pulse-p.ensures in
    let v3 = rw (v2, read f.offset, read f.lambda) at c.tried-t.ensures in
    let t = pair c.tried-t.result c.struct_told-1.given in
    let v4 = got32 c.with_noise-rd1.result c.with_noise-rd1.type_inv ∙ rw (t.rd1, read f.r, t.q1) at c.with_noise-rd1.ensures in
    let v5 = got32 c.with_noise-rd2.result c.with_noise-rd2.type_inv ∙ rw (t.rd2, read f.r, t.q2) at c.with_noise-rd2.ensures in
    rw (t.q1, v4, t.q2, v5) at c.ordered.ensures ∙ ap (costed c.args.r) v3
