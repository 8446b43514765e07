-- What the code's classes of bytes say, in the terms of the definitions.
-- Assumes nothing.
use Rattle.std.specs.Prelude.{ℕ, Bool}
use Rattle.sheet_words.specs.Number.{separator, in_word, digit}
use Rattle.sheet_words.specs.declared.words.Class.{Class}
use Rattle.sheet_words.specs.declared.words.Class.TheVariants as class

-- the bytes of a class
abbrev pub in_class : Class → ℕ → Bool
in_class class.Separator = separator
in_class class.InWord = in_word
in_class class.Digit = digit
