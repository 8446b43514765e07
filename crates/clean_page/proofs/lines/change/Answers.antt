-- `clean_page::lines::change` meets its contract. Assumes nothing.
use Rattle.clean_page.proofs.Printed.{line-added}
use Rattle.clean_page.proofs.lines.change.Goals as goal

pub returns : goal.returns
returns g c =
    let a = c.args in
    line-added a.section a.place (g.T.Number.value a.old) (g.T.Number.value a.new) c.digits.ensures c.put.ensures c.digits-2.ensures c.put-2.ensures c.decimal.ensures c.put-3.ensures c.decimal-2.ensures
    c.put-4.ensures
