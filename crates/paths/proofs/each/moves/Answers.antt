-- `paths::each::moves` meets its contract. Assumes nothing.
use mathlib.Core.Path.{◌≡◌, ap, ◌∙◌}
use Prim.Native.Nat.{ℕ}
use native.Mathlib.Omega.{arith}
use Rattle.fixed.specs.Iter.{iter}
use Rattle.steps.specs.Each.{moves, move_turn, unmoved}
use Rattle.paths.proofs.each.moves.Goals as goal

pub returns : goal.returns
unfolding moves
returns c =
    let a = c.args in
    let e : c.loop-k.k ≡ a.f.«nStates» = omega arith in
    c.loop-k.invariant.1 ∙ ap (λ (j : ℕ). iter (move_turn a.f a.h a.ar.now) j (unmoved a.ps)) e
