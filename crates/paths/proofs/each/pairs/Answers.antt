-- `paths::each::pairs` meets its contract. Assumes nothing.
use mathlib.Core.Path.{◌≡◌, ap, ◌∙◌}
use Prim.Native.Nat.{ℕ}
use native.Mathlib.Omega.{arith}
use lib.ListN.{replicate}
use Rattle.fixed.specs.Iter.{iter}
use Rattle.path.specs.Data.{no_candidate}
use Rattle.steps.specs.Each.{pairs, pair_turn}
use Rattle.paths.proofs.each.pairs.Goals as goal

pub returns : goal.returns
unfolding pairs
returns c =
    let a = c.args in
    let turn = pair_turn a.f a.a.now a.s a.i a.r0 a.m a.ps.now.lpcs a.ps.now.rings in
    let e : c.loop-k.k ≡ a.f.«nStates» = omega arith in
    let i : c.loop-k.c ≡ iter turn c.loop-k.k (replicate 4 (replicate 2 no_candidate)) = simp c.zero-z.ensures at c.loop-k.invariant.1 in
    i ∙ ap (λ (j : ℕ). iter turn j (replicate 4 (replicate 2 no_candidate))) e
