-- `cleaning::rows::keep` meets its contract. Assumes nothing.
use Prim.Native.Nat.{◌<◌}
use native.Mathlib.Omega.{arith}
use mathlib.Core.Path.{◌≡◌, sym, ap, ◌∙◌}
use mathlib.Core.List.{List}
use lib.ListN.{length}
use lib.IntN.{ℤ}
use Rattle.cleaning.specs.Cleaned.{kept_if}
use Rattle.cleaning.specs.Turns.{place_turn}
use Rattle.cleaning.proofs.Loops.{loop-kept, turn-kept, turn-cleared, turn-next}
use Rattle.cleaning.proofs.rows.keep.Goals.{then-not-counts, else-not-counts}
use Rattle.cleaning.proofs.rows.keep.Goals as goal

pub loop-i-preserved : goal.loop-i-preserved
loop-i-preserved g c =
    λ f h.
    let i = c.loop-i.i in
    let within : i < length c.args.row.now = omega arith in
    let q : c.counts.result ≡ f i = h i c.counts.result within c.counts.ensures in
    let turned =
    ap (λ (l : List ℤ). place_turn (λ k z. kept_if (f k) z) i l) (c.loop-i.invariant f h) ∙ turn-next (λ k z. kept_if (f k) z) i c.args.row.now in
    elim c.if-not-counts.branch [
      | then-not-counts w ↦ w.row-is ∙ turn-cleared f i c.loop-i.row (sym q ∙ w.if-not-counts.true) ∙ turned
      | else-not-counts w ↦ w.row-is ∙ turn-kept f i c.loop-i.row (sym q ∙ w.if-not-counts.false) ∙ turned
    ]

pub returns : goal.returns
returns g c = λ f h. c.loop-i.invariant f h ∙ loop-kept f c.loop-i.i c.args.row.now (omega arith)
