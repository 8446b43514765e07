-- `subframes::scalars::since` meets its contract. Assumes nothing.
use mathlib.Core.Path.{◌≡◌, ◌∙◌, sym, refl}
use mathlib.Core.Bool.{Bool, true, false, ◌&&◌}
use Prim.Native.Nat.{ℕ, ◌-◌, ◌<◌}
use lib.Dec.{leb}
use borrow.Author.Tests.{le-leb, lt-leb}
use Rattle.fixed.specs.Iter.{either}
use Rattle.steps.specs.Call.{since_by, twice_by}
use Rattle.subframes.proofs.scalars.since.Goals as goal
use Rattle.subframes.proofs.scalars.since.Goals.{else-twice-via-then-twice+else-k-ge2, else-twice-via-else-twice}

-- before subframe 2 nothing is taken off
below : (k : ℕ) (t : Bool) → k < 2 → k ≡ either (t && leb 2 k) (k - 2) k
below k true h = rw (lt-leb 2 k h)
below k false h = refl

pub returns-then-k-ge2 : goal.returns-then-k-ge2
unfolding since_by
returns-then-k-ge2 c = rw (sym c.twice.ensures ∙ c.if-twice.true, le-leb 2 c.args.k c.if-k-ge2.true)

pub returns-else-twice : goal.returns-else-twice
unfolding since_by
returns-else-twice c =
    elim c.else-twice.branch [
      | else-twice-via-then-twice+else-k-ge2 w ↦ below c.args.k (twice_by c.args.g) w.if-k-ge2.false
      | else-twice-via-else-twice w ↦ rw (sym c.twice.ensures ∙ w.if-twice.false)
    ]
