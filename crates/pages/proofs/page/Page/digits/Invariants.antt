-- `pages::page::Page::digits` meets its contract. Assumes nothing.
use mathlib.Core.Path.{◌≡◌}
use Prim.Native.Nat.{◌+◌, ◌^◌, ◌≤◌, ◌<◌}
use mathlib.Core.List.{◌++◌}
use lib.ListN.{length, drop}
use Rattle.pages.specs.Decimal.{digits}
use Rattle.pages.proofs.page.Page.digits.Given as goal

abbrev pub invariant-loop-left : goal.invariant-loop-left
invariant-loop-left l = ((l.at ≤ 19) × (length l.ds ≡ 20)) × ((l.left < 10 ^ (l.at + 1)) × (digits l.n ≡ digits l.left ++ drop (l.at + 1) l.ds))

abbrev pub decreases-loop-left : goal.decreases-loop-left
decreases-loop-left l = l.left
