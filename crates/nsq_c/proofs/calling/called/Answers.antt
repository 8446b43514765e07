-- `nsq_c::calling::called` meets its contract. Assumes nothing.
use mathlib.Core.Path.{◌≡◌, ap, ◌∙◌}
use lib.ListN.{length}
use borrow.Author.Tests.{eq-eqb, ne_eqb}
use Rattle.steps.specs.Entry.{Outcome}
use Rattle.nsq_c.specs.Rows.{called}
use Rattle.nsq_c.specs.Report.{report_in}
use Rattle.plain_laid.specs.Laid.{Left, laid}
use Rattle.plain_fresh.specs.Fresh.{state_fits}
use Rattle.settings_row.specs.Named.{settings_of}
use Rattle.plain_answers.specs.Stateless.{stateless}
use Rattle.refusal_rules.specs.Code.{refusal_code, code_of}
use Rattle.nsq_c.proofs.calling.called.Goals as goal
use Rattle.nsq_c.proofs.calling.called.Goals.{then-samples-ne640-via-then-samples-ne640, then-samples-ne640-via-else-samples-ne640+then-words-ne767}

pub returns-then-settings-ne12 : goal.returns-then-settings-ne12
unfolding called report_in
returns-then-settings-ne12 c = let other = ne_eqb (length c.args.settings.now) 12 c.if-settings-ne12.true in record { rows = rw other; report = rw other }

pub returns-then-samples-ne640 : goal.returns-then-samples-ne640
unfolding called report_in state_fits
returns-then-samples-ne640 c =
    let a = c.args in
    let twelve = eq-eqb (length a.settings.now) 12 c.if-settings-ne12.false in
    let why : refusal_code c.stateless.result ≡ code_of (stateless (settings_of a.settings.now)) =
    ap code_of (rw c.settings_of-s.ensures at c.stateless.ensures) in
    elim c.then-samples-ne640.branch [
      | then-samples-ne640-via-then-samples-ne640 w ↦
          let other = ne_eqb (length a.samples.now) 640 w.if-samples-ne640.true in record { rows = rw (twelve, other, why); report = rw (twelve, other) }
      | then-samples-ne640-via-else-samples-ne640+then-words-ne767 w ↦
          let long = eq-eqb (length a.samples.now) 640 w.if-samples-ne640.false in
          let other = ne_eqb (length a.words.now) 767 w.if-words-ne767.true in
          record { rows = rw (twelve, long, other, why); report = rw (twelve, long, other) }
    ]

pub returns : goal.returns
unfolding called report_in state_fits
returns c =
    let a = c.args in
    let e = rw (c.settings_of-s.ensures, c.state_of-state.ensures) at c.silk_NSQ_del_dec-a.ensures.outcome in
    let k = rw (c.settings_of-s.ensures, c.state_of-state.ensures) at c.silk_NSQ_del_dec-a.ensures.report in
    let by : Outcome → Left = λ o. laid a.settings.now a.samples.now a.words.now o in
    let twelve = eq-eqb (length a.settings.now) 12 c.if-settings-ne12.false in
    let long = eq-eqb (length a.samples.now) 640 c.if-samples-ne640.false in
    let whole = eq-eqb (length a.words.now) 767 c.if-words-ne767.false in
    record { rows = rw (twelve, long, whole) (c.lay.ensures.rows _ ∙ ap by e); report = rw (twelve, long, whole) (c.lay.ensures.report ∙ k) }
