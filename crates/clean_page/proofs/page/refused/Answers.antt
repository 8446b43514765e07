-- `clean_page::page::refused` meets its contract. Assumes nothing.
use Rattle.pages.proofs.Pages.{added_then}
use Rattle.clean_page.specs.Text.{refused_text}
use Rattle.clean_page.proofs.page.refused.Goals as goal

pub returns : goal.returns
unfolding refused_text
returns c = added_then _ _ c.number_line.ensures c.put_all.ensures
