-- `hear::told` meets its contract: what it writes is within the page. Assumes nothing.
use Rattle.pages.proofs.Pages.{puts-used}
use Rattle.std.proofs.Common.{rules}
use Rattle.hear.proofs.told.Goals as goal

pub slice_bounds-write_all-end : goal.slice_bounds-write_all-end
slice_bounds-write_all-end c =
    let within = puts-used _ _ _ _ c.hear-used.ensures in
    search rules
