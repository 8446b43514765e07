-- `sheet_page::call::sizes` meets its contract. Assumes nothing.
use Rattle.sheet_page.proofs.Called.{lent-sizes}
use Rattle.sheet_page.proofs.call.sizes.Goals as goal

pub returns : goal.returns
returns c =
    let a = c.args in
    lent-sizes a.read.now _ _ _ _ _ _ _ _ c.len.ensures.value c.len-2.ensures.value c.len-3.ensures.value c.len-4.ensures.value c.len-5.ensures.value c.len-6.ensures.value c.len-7.ensures.value c.frame_length.ensures
