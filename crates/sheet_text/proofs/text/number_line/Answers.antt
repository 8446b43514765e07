-- `sheet_text::text::number_line` meets its contract. Assumes nothing.
use Rattle.sheet_text.proofs.Lines.{line-added}
use Rattle.sheet_text.proofs.text.number_line.Goals as goal

pub returns : goal.returns
returns g c = line-added c.args.word.now (g.T.Number.value c.args.x) c.put_all.ensures c.decimal.ensures c.put.ensures
