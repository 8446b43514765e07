-- `sheet_page::call::answered` meets its contract. Assumes nothing.
use mathlib.Core.Path.{ap₂, ◌∙◌}
use mathlib.Core.List.{List}
use lib.IntN.{ℤ, pos}
use Rattle.steps.specs.Among.{keeps_first}
use Rattle.steps.specs.Call.{Call}
use Rattle.steps.specs.Entry.{outcome}
use Rattle.steps.specs.Report.{report}
use Rattle.sheet_page.proofs.Called.{lent-call}
use Rattle.sheet_page.proofs.call.answered.Goals as goal

pub returns : goal.returns
returns c =
    let a = c.args in
    let same = lent-call a.read.now _ _ _ _ _ _ _ _ _ _ _ c.with_default.ensures c.fresh.ensures c.as_slice.ensures.value c.as_slice-2.ensures.value c.as_slice-3.ensures.value c.as_slice-4.ensures.value c.as_slice-5.ensures.value c.as_slice-6.ensures.value c.as_slice-7.ensures.value c.as_slice-8.ensures.value c.as_slice-9.ensures.value in
    let told = c.silk_NSQ_del_dec.ensures in
    record { outcome = told.outcome ∙ ap₂ (λ (k : Call) (x : List ℤ). outcome keeps_first k x a.out.now) same.same-call same.same-samples; report = told.report ∙ ap₂ (λ (k : Call) (x : List ℤ). pos (report keeps_first k x a.out.now)) same.same-call same.same-samples }
