-- `sheet_form::section::numbers` meets its contract. Assumes nothing.
use mathlib.Core.Path.{◌≡◌}
use Prim.Native.Nat.{◌-◌}
use lib.ListN.{length, drop}
use Rattle.sheet_form.specs.Sections.{numbers}
use Rattle.sheet_form.proofs.Numbers.{prepend}
use Rattle.sheet_form.proofs.section.numbers.Given as goal

abbrev pub invariant-loop-i : goal.invariant-loop-i
invariant-loop-i g l = (length (g.R.Row.numbers l.row) ≡ l.i)
    × (numbers g.R.Row.words l.count (drop l.at l.text) ≡ prepend (g.R.Row.numbers l.row) (numbers g.R.Row.words (l.count - l.i) (drop l.place l.text)))
