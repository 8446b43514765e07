-- `sheet_page::page::whole` meets its contract. Assumes nothing.
use lib.ListN.{take}
use Rattle.sheet_page.proofs.Room.{whole-page}
use Rattle.std.proofs.Common.{rules}
use Rattle.sheet_page.proofs.page.whole.Goals as goal

pub returns : goal.returns
returns c =
    let a = c.args in
    let w = whole-page _ (take a.n a.space.now) a.page.now _ c.sheet_page.result c.first.ensures (search rules) c.sheet_page.ensures in
    record { page = w.put; text = w.text-first; within = w.within }
