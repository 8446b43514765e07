-- `sheet_page::call::checked` meets its contract. Assumes nothing.
use mathlib.Core.Path.{refl, ◌∙◌}
use Rattle.silk.specs.State.{fresh_lag, fresh_state}
use Rattle.sheet_page.proofs.Called.{lent-answer}
use Rattle.sheet_page.proofs.call.checked.Goals as goal

pub returns : goal.returns
unfolding fresh_lag fresh_state
returns c =
    let a = c.args in
    c.check.ensures ∙ lent-answer a.read.now _ _ _ _ _ _ c.with_default.ensures c.sizes.ensures refl refl c.as_slice.ensures.value c.as_slice-2.ensures.value
