-- `sheet_words::words::number_of` meets its contract. Assumes nothing.
use mathlib.Core.Path.{◌∙◌}
use Rattle.std.proofs.Common.{rules, ◌≢◌, length}
use Rattle.sheet_words.proofs.FirstByte.{number-of-none, number-of-minus, number-of-plain}
use Rattle.sheet_words.proofs.words.number_of.Goals as goal

pub returns-then-is_empty : goal.returns-then-is_empty
returns-then-is_empty c = number-of-none c.args.word.now (search rules)

pub returns-then-word-eq45 : goal.returns-then-word-eq45
returns-then-word-eq45 c =
    let some : length c.args.word.now ≢ 0 = search rules in
    c.signed.ensures ∙ number-of-minus c.args.word.now some c.if-word-eq45.true

pub returns-else-word-eq45 : goal.returns-else-word-eq45
returns-else-word-eq45 c =
    let some : length c.args.word.now ≢ 0 = search rules in
    c.signed-else-word-eq45.ensures ∙ number-of-plain c.args.word.now some c.if-word-eq45.false
