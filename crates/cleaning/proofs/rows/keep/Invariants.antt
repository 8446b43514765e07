-- `cleaning::rows::keep` meets its contract. Assumes nothing.
use Prim.Native.Nat.{ℕ, ◌<◌}
use mathlib.Core.Path.{◌≡◌}
use mathlib.Core.Bool.{Bool}
use lib.ListN.{length}
use Rattle.fixed.specs.Iter.{iter}
use Rattle.cleaning.specs.Cleaned.{kept_if}
use Rattle.cleaning.specs.Turns.{place_turn}
use Rattle.cleaning.proofs.rows.keep.Given as goal

abbrev pub invariant-loop-i : goal.invariant-loop-i
invariant-loop-i g l =
    (f : ℕ → Bool) → ((i : ℕ) (b : Bool) → i < length l.initial.row → goal.F-post g l.counts i b → b ≡ f i)
    → l.row ≡ iter (place_turn (λ k z. kept_if (f k) z)) l.i l.initial.row
