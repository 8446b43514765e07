-- `sheet_words::words::run_length` meets its contract. Assumes nothing.
use mathlib.Core.Path.{◌≡◌}
use Prim.Native.Nat.{◌+◌}
use lib.ListN.{drop}
use Rattle.sheet_words.specs.Number.{run}
use Rattle.sheet_words.specs.Words.{in_class}
use Rattle.sheet_words.proofs.words.run_length.Given as goal

abbrev pub invariant-loop-n : goal.invariant-loop-n
invariant-loop-n l = (run (in_class l.class) l.text ≡ l.n + run (in_class l.class) (drop l.n l.text))
