-- `clean_page::page::became` meets its contract. Assumes nothing.
use mathlib.Core.Path.{ap}
use Rattle.std.proofs.Common.{rules}
use Rattle.sheet_text.specs.Text.{sheet_text}
use Rattle.pages.proofs.Pages.{added_then, added_as}
use Rattle.clean_page.specs.Text.{became_text}
use Rattle.clean_page.proofs.page.became.Goals as goal

pub returns : goal.returns
unfolding became_text
returns c = added_then _ _ (rw c.clean-new.ensures at c.changes.ensures) (added_as (ap sheet_text (search rules)) c.print.ensures)
