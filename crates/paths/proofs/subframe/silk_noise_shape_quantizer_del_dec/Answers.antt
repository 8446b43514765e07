-- `paths::subframe::silk_noise_shape_quantizer_del_dec` meets its contract. Assumes nothing.
use mathlib.Core.Path.{◌≡◌, ap, ◌∙◌}
use mathlib.Core.List.{List}
use Prim.Native.Nat.{ℕ}
use native.Mathlib.Omega.{arith}
use lib.IntN.{ℤ}
use Rattle.fixed.specs.Iter.{iter}
use Rattle.path.specs.Data.{running, rows_of_coefs, Running}
use Rattle.steps.specs.Among.{full_copy}
use Rattle.steps.specs.Carried.{chosen, carry_at, carried_in}
use Rattle.steps.specs.Subframe.{subframe, move_back, with_lpcs}
use Rattle.steps.specs.Turn.{turn}
use Rattle.paths.proofs.subframe.silk_noise_shape_quantizer_del_dec.Goals as goal

pub returns : goal.returns
unfolding subframe move_back carried_in
returns c =
    let a = c.args in
    let o = c.loop-i in
    let p = running o.w o.pulses in
    let start = running a.w.now a.pulses.now in
    let v = rows_of_coefs a.v in
    let turns : ℕ → Running = λ n. iter (turn full_copy a.f v a.x.now) n start in
    let carried : ℕ → List (List ℤ) = λ n. iter (carry_at chosen full_copy a.f v a.x.now start) n a.w.now.chosen in
    let e : o.i ≡ a.f.subfr_length = omega arith in record { words = (ap (λ (w : List (List ℤ)). with_lpcs p w) c.backs.ensures ∙ ap (move_back a.f) (o.invariant.1.0 ∙ ap turns e), o.invariant.0.1.1); chosen = o.invariant.1.1 ∙ ap carried e }
