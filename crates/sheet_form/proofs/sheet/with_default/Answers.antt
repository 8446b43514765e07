-- `sheet_form::sheet::with_default` meets its contract. Assumes nothing.
use mir.Syntax.{w32}
use mir.Val.{SFits}
use Rattle.fixed.proofs.Fit.{read}
use Rattle.sheet_form.specs.Sheets.{with_default}
use Rattle.sheet_form.proofs.Paths.{paths-zero, paths-other}
use Rattle.std.proofs.Common.{rules}
use Rattle.sheet_form.proofs.sheet.with_default.Goals as goal

pub returns-then-settings-eq0 : goal.returns-then-settings-eq0
unfolding with_default
returns-then-settings-eq0 c =
    let s = c.args.settings in
    let f : SFits w32 s.nStatesDelayedDecision = search rules in
    rw (paths-zero s.nStatesDelayedDecision (read f) c.if-settings-eq0.true)

pub returns-else-settings-eq0 : goal.returns-else-settings-eq0
unfolding with_default
returns-else-settings-eq0 c = let s = c.args.settings in rw (paths-other s.nStatesDelayedDecision c.if-settings-eq0.false)
