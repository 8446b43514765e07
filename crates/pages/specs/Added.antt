-- What a function leaves of a page that was lent to it. Assumes nothing.
use Rattle.std.specs.Prelude.{List, ℕ, ◌≡◌}
use Rattle.pages.specs.declared.page.Page.{Page as Lent}
use Rattle.pages.specs.Page.{Page, page, puts}

-- a page of the code: the bytes of the lent buffer, and how many of them are in use
abbrev pub written : Lent → Page
written p = page p.used p.bytes.now

-- the page q is the page p with the text put on it; it stands in the same lent buffer
pub record Added (p : Lent) (text : List ℕ) (q : Lent) : Type 0 where
  pub lent : q.bytes.ghost_name ≡ p.bytes.ghost_name
  pub puts : written q ≡ puts text (written p)
