-- `sheet_words::words::in_class` meets its contract. Assumes nothing.
use Rattle.sheet_words.proofs.Classes.{separator-32, separator-10, in-word-10, in-word-32, ascii-digit}
use Rattle.sheet_words.specs.Number.{digit}
use Rattle.sheet_words.proofs.words.in_class.Goals as goal

pub returns-then-b-eq32 : goal.returns-then-b-eq32
returns-then-b-eq32 c = rw c.in-Separator.is (separator-32 _ c.if-b-eq32.true)

pub returns-else-b-eq32 : goal.returns-else-b-eq32
returns-else-b-eq32 c = rw c.in-Separator.is (separator-10 _ c.if-b-eq32.false)

pub returns-then-b-ne32 : goal.returns-then-b-ne32
returns-then-b-ne32 c = rw c.in-InWord.is (in-word-10 _ c.if-b-ne32.true)

pub returns-else-b-ne32 : goal.returns-else-b-ne32
returns-else-b-ne32 c = rw c.in-InWord.is (in-word-32 _ c.if-b-ne32.false)

pub returns-in-Digit : goal.returns-in-Digit
unfolding digit
returns-in-Digit c = rw (c.in-Digit.is, c.is_ascii_digit.ensures.value) (ascii-digit c.args.b)
