-- `nsq_c::report::nsq_del_dec_report` meets its contract. Assumes nothing.
use Prim.Native.Nat.{ℕ}
use native.Mathlib.Omega.{arith}
use mathlib.Core.Path.{◌≡◌, refl, ap, ◌∙◌}
use mathlib.Core.Logic.{◌≢◌}
use mathlib.Core.List.{List}
use lib.ListN.{length, set}
use lib.IntN.{ℤ, pos}
use borrow.Author.Tests.{eq-eqb, ne_eqb}
use mir.Syntax.{w32}
use mir.Val.{to_z, of_z}
use Rattle.refusal_rules.proofs.Matched.{code-refused}
use Rattle.std.proofs.Common.{rules}
use Rattle.plain_laid.specs.Laid.{Left}
use Rattle.nsq_c.specs.Rows.{call_in}
use Rattle.nsq_c.specs.Report.{report_in, Reported, reported_of, with_report, reported}
use Rattle.nsq_c.proofs.report.nsq_del_dec_report.Goals as goal

-- accepted, the report is written
written : (k : ℕ) (row : List ℤ) (l : Left) → l.number ≡ 0 → reported_of l (set row 0 (pos k)) ≡ with_report k row l
unfolding with_report
written k row l e = rw (eq-eqb l.number 0 e)

-- refused, the row is left
left : (k : ℕ) (row : List ℤ) (l : Left) → l.number ≢ 0 → reported_of l row ≡ with_report k row l
unfolding with_report
left k row l e = rw (ne_eqb l.number 0 e)

pub returns-then-report-ne1 : goal.returns-then-report-ne1
unfolding reported
returns-then-report-ne1 c =
    rw (ne_eqb (length c.args.report.now) 1 c.if-report-ne1.true, c.short_number.ensures)

pub returns-in-Ok : goal.returns-in-Ok
unfolding reported
returns-in-Ok c =
    let a = c.args in
    let it = call_in a.settings.now a.samples.now a.words.now a.pred.now a.long.now a.ar.now a.harm.now a.tilt.now a.lf.now a.gains.now a.lags.now in
    let k = report_in a.settings.now a.samples.now a.words.now it a.x.now a.pulses.now in
    let with : Left → Reported = λ l. with_report k a.report.now l in
    let one = eq-eqb (length a.report.now) 1 c.if-report-ne1.false in
    let count : to_z w32 (of_z w32 c.in-Ok.count) ≡ c.in-Ok.count = search rules in
    rw (one, count, c.in-Ok.ensures.report) (written k a.report.now _ refl ∙ ap with c.in-Ok.ensures.rows)

pub returns-in-Err : goal.returns-in-Err
unfolding reported
returns-in-Err c =
    let a = c.args in
    let it = call_in a.settings.now a.samples.now a.words.now a.pred.now a.long.now a.ar.now a.harm.now a.tilt.now a.lf.now a.gains.now a.lags.now in
    let k = report_in a.settings.now a.samples.now a.words.now it a.x.now a.pulses.now in
    let with : Left → Reported = λ l. with_report k a.report.now l in
    let one = eq-eqb (length a.report.now) 1 c.if-report-ne1.false in
    let some = code-refused c.in-Err.why in
    rw (one, c.number.ensures) (left k a.report.now _ (λ e. omega arith) ∙ ap with c.in-Err.ensures.rows)
