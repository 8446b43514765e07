-- `pages::page::Page::put` meets its contract. Assumes nothing.
use mathlib.Core.Path.{refl, sym, ◌∙◌}
use Rattle.pages.proofs.Pages.{put_in, put_full, puts_one}
use Rattle.pages.proofs.page.Page.put.Goals as goal

pub returns-then-self : goal.returns-then-self
returns-then-self c =
    let p = c.args.self.now in
    record { lent = refl; puts = put_in c.args.b p.used p.bytes.now c.if-self.true ∙ sym (puts_one c.args.b _) }

pub returns-else-self : goal.returns-else-self
returns-else-self c =
    let p = c.args.self.now in
    record { lent = refl; puts = put_full c.args.b p.used p.bytes.now c.if-self.false ∙ sym (puts_one c.args.b _) }
