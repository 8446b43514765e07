-- `nsq::entry::silk_NSQ_del_dec` meets its contract. Assumes nothing.
use mathlib.Core.Path.{◌≡◌, refl, sym, ap, ◌∙◌}
use lib.IntN.{ℤ, pos}
use mir.Syntax.{w32}
use mir.Val.{to_z, of_z}
use Rattle.std.proofs.Common.{rules}
use Rattle.steps.specs.Among.{keeps_first, full_copy}
use Rattle.refusal_rules.specs.Code.{Answer, Accepted, code_of}
use Rattle.refusal_rules.proofs.Accept.{good}
use Rattle.refusal_rules.proofs.Matched.{code-refused}
use Rattle.std.specs.Prelude.{Err}
use Rattle.steps.specs.Call.{call_of}
use Rattle.steps.specs.Frame.{Done}
use Rattle.steps.specs.Entry.{Outcome, outcome_of, answered, taken, outcome_by, outcome}
use Rattle.coding.proofs.Ready.{state}
use Rattle.steps.specs.Report.{report_by, report}
use Rattle.steps.proofs.Outcomes.{accepted-by, refused-by, accepted-report, refused-report}
use Rattle.full_copy.proofs.Theorems.{full-copy, full-copy-report}
use Rattle.nsq.proofs.entry.silk_NSQ_del_dec.Goals as goal

pub coded-r-requires : goal.coded-r-requires
coded-r-requires c =
    let a = c.args in
    let s = state a.state c.struct_told-1.given in
    let size = c.sizes-z.ensures a.s a.state a.gains.now a.lags.now in
    let e = rw (s.lag, s.gain, size) at c.check.ensures in
    good a.s _ a.state.lagPrev a.state.prev_gain_Q16 a.gains.now a.lags.now (sym e ∙ c.in-Ok.is)

-- the frame copies whole paths; the promise is by the Rust's rule, and the two outcomes and reports are one (`full-copy`, `full-copy-report`)
pub returns-in-Ok : goal.returns-in-Ok
unfolding outcome report answered
returns-in-Ok c =
    let a = c.args in
    let s = state a.state c.struct_told-1.given in
    let size = c.sizes-z.ensures a.s a.state a.gains.now a.lags.now in
    let e = sym c.in-Ok.is ∙ (rw (s.lag, s.gain, size) at c.check.ensures) in
    let it = call_of a.s a.state a.pred.now a.long.now a.ar.now a.harm.now a.tilt.now a.lf.now a.gains.now a.lags.now in
    let r = Accepted in
    let zero : code_of r ≡ 0 = refl in
    let by : Answer → Outcome = λ n. outcome_by full_copy it a.x.now a.pulses.now n in
    let counted : Answer → ℤ = λ n. pos (report_by full_copy it a.x.now a.pulses.now n) in
    let seed : to_z w32 (of_z w32 c.coded-r.result.seed) ≡ c.coded-r.result.seed = search rules in
    let count : to_z w32 (of_z w32 c.coded-r.result.report) ≡ c.coded-r.result.report = search rules in record {
      outcome = rw seed
          (ap (λ (d : Done). taken r d) c.coded-r.ensures.words
          ∙ sym (accepted-by full_copy it a.x.now a.pulses.now r zero)
          ∙ ap by e
          ∙ sym (full-copy it a.x.now a.pulses.now));
      report = rw count
          (c.coded-r.ensures.report
          ∙ ap pos (sym (accepted-report full_copy it a.x.now a.pulses.now r zero))
          ∙ ap counted e
          ∙ ap pos (sym (full-copy-report it a.x.now a.pulses.now)));
    }

pub returns-in-Err : goal.returns-in-Err
unfolding outcome report answered
returns-in-Err c =
    let a = c.args in
    let s = state a.state c.struct_told-1.given in
    let size = c.sizes-z.ensures a.s a.state a.gains.now a.lags.now in
    let e = rw (s.lag, s.gain, size) at c.check.ensures in
    let it = call_of a.s a.state a.pred.now a.long.now a.ar.now a.harm.now a.tilt.now a.lf.now a.gains.now a.lags.now in
    let by : Answer → Outcome = λ n. outcome_by keeps_first it a.x.now a.pulses.now n in
    let counted : Answer → ℤ = λ n. pos (report_by keeps_first it a.x.now a.pulses.now n) in
    let why = c.in-Err.why in
    let found = sym c.in-Err.is ∙ e in
    let seed : to_z w32 (of_z w32 a.s.Seed) ≡ a.s.Seed = search rules in
    let with : ℤ → Outcome = λ z. outcome_of (Err why) z a.state a.pulses.now in record {
      outcome = ap with seed ∙ sym (refused-by keeps_first it a.x.now a.pulses.now (Err why) (code-refused why)) ∙ ap by found;
      report = ap pos (sym (refused-report keeps_first it a.x.now a.pulses.now (Err why) (code-refused why))) ∙ ap counted found;
    }
