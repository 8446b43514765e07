-- `hear_text::answer::read` meets its contract. Assumes nothing.
use mathlib.Core.Path.{ap}
use mir.Syntax.{w32}
use mir.Val.{SFits}
use Rattle.fixed.proofs.Fit.{read}
use Rattle.excitation.specs.Reading.{Heard}
use Rattle.pages.proofs.Pages.{added_as}
use Rattle.hear_text.specs.Heard.{heard_text}
use Rattle.std.proofs.Common.{rules}
use Rattle.hear_text.proofs.answer.read.Goals as goal

pub returns : goal.returns
unfolding heard_text
returns c =
    let call = c.args.call.now in
    let seed : SFits w32 call.seed = search rules in
    let kind : SFits w32 call.signal_type = search rules in
    let offset : SFits w32 call.offset_type = search rules in
    let h = rw (read seed, read kind, read offset, c.as_slice.ensures.value) at c.excitation-a.ensures in
    added_as (ap (λ (h : Heard). heard_text h) h) (rw c.number.ensures at c.shown.ensures)
