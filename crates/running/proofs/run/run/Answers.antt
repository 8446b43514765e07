-- `running::run::run` meets its contract. Assumes nothing.
use mathlib.Core.Path.{◌≡◌, ap, ◌∙◌}
use Prim.Native.Nat.{ℕ}
use native.Mathlib.Omega.{arith}
use mathlib.Core.List.{List}
use lib.IntN.{ℤ}
use Rattle.steps.specs.Among.{full_copy}
use Rattle.steps.specs.Carried.{chosen, carried_by}
use Rattle.steps.specs.Frame.{Framed}
use Rattle.steps.specs.Lent.{framed_at, run_in, carried_on}
use Rattle.running.proofs.run.run.Goals as goal

pub returns : goal.returns
unfolding carried_by
returns c =
    let a = c.args in
    let o = c.loop-k in
    let start = framed_at a.t.now a.pulses.now in
    let turns : ℕ → Framed = λ n. run_in full_copy a.g a.r n start in
    let e : o.k ≡ a.g.nb_subfr = omega arith in
    let carried : ℕ → List (List ℤ) = λ n. carried_on chosen full_copy a.g a.r n start a.t.now.work.chosen in
    record { words = (o.invariant.1.0 ∙ ap turns e, o.invariant.0.1.1.1); chosen = o.invariant.1.1 ∙ ap carried e }
