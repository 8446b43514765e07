-- `pages::page::Page::put_all` meets its contract. Assumes nothing.
use mathlib.Core.Path.{◌≡◌}
use lib.ListN.{drop}
use Rattle.pages.specs.Page.{page, puts}
use Rattle.pages.specs.Added.{written}
use Rattle.pages.proofs.page.Page.put_all.Given as goal

-- the same buffer is lent, and what is still to be put on it as it stands gives what all gives on the page as it was
abbrev pub invariant-loop-b : goal.invariant-loop-b
invariant-loop-b l =
    (l.self.bytes.ghost_name ≡ l.initial.self.bytes.ghost_name) × (puts l.bytes (written l.initial.self) ≡ puts (drop l.b-index l.bytes) (page l.used l.self.bytes.now))
