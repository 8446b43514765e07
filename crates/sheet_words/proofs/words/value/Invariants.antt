-- `sheet_words::words::value` meets its contract. Assumes nothing.
use mathlib.Core.Path.{◌≡◌}
use lib.ListN.{drop}
use Rattle.sheet_words.specs.Number.{value}
use Rattle.sheet_words.proofs.words.value.Given as goal

abbrev pub invariant-loop-b : goal.invariant-loop-b
invariant-loop-b l = value 0 l.digits ≡ value l.sum (drop l.b-index l.digits)
