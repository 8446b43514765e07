-- `closing::end::work_end` meets its contract. Assumes nothing.
use Prim.Native.Nat.{◌-◌}
use native.Mathlib.Omega.{arith}
use Rattle.steps.proofs.Sound.{since-few}
use Rattle.closing.proofs.end.work_end.Goals as goal

pub overflow_add-since : goal.overflow_add-since
overflow_add-since c =
    let few = since-few c.args.g (c.args.g.nb_subfr - 1) in
    record { fits = omega (arith, c.since-since.ensures, c.requires) }

pub times-done-requires : goal.times-done-requires
times-done-requires c =
    let few = since-few c.args.g (c.args.g.nb_subfr - 1) in
    omega (arith, c.since-since.ensures, c.requires)
