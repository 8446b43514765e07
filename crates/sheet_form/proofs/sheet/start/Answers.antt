-- `sheet_form::sheet::start` meets its contract. Assumes nothing.
use borrow.Author.Tests.{lt-ltb, le-ltb}
use Rattle.sheet_form.specs.Sheets.{start_rest}
use Rattle.sheet_form.proofs.sheet.start.Goals as goal

pub returns-then-text-gt-MOST_BYTES : goal.returns-then-text-gt-MOST_BYTES
unfolding start_rest
returns-then-text-gt-MOST_BYTES c = rw (lt-ltb 65536 _ c.if-text-gt-MOST_BYTES.true)

pub returns-else-text-gt-MOST_BYTES : goal.returns-else-text-gt-MOST_BYTES
unfolding start_rest
returns-else-text-gt-MOST_BYTES c = rw (le-ltb 65536 _ c.if-text-gt-MOST_BYTES.false)
