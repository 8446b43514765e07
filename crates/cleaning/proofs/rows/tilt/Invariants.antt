-- `cleaning::rows::tilt` meets its contract. Assumes nothing.
use mathlib.Core.Path.{◌≡◌}
use Rattle.fixed.specs.Iter.{iter}
use Rattle.fixed.specs.Wrap.{wrap16}
use Rattle.cleaning.specs.Turns.{place_turn}
use Rattle.cleaning.proofs.rows.tilt.Given as goal

abbrev pub invariant-loop-w : goal.invariant-loop-w
invariant-loop-w l = l.row ≡ iter (place_turn (λ k z. wrap16 z)) l.w-index l.initial.row
