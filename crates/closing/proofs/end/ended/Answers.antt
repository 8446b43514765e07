-- `closing::end::ended` meets its contract. Assumes nothing.
use Prim.Native.Nat.{ℕ, ◌^◌, ◌<◌}
use native.Mathlib.Omega.{arith}
use mathlib.Core.Path.{ap, ◌∙◌}
use mathlib.Core.List.{[]}
use lib.ListN.{get_or}
use mir.Syntax.{w32}
use mir.Facts.{to_z_pos}
use Rattle.fixed.proofs.Fit.{read}
use Rattle.path.specs.Data.{no_path}
use Rattle.path.proofs.Told.{path}
use Rattle.edges.specs.Fits.{fit_by}
use Rattle.steps.specs.Flush.{Outs, fit_last}
use Rattle.steps.specs.Frame.{flushed_run, Done, handed_out, ended_with, ended_by}
use Rattle.steps.specs.Lent.{framed_at}
use Rattle.closing.proofs.end.ended.Goals as goal

pub returns : goal.returns
unfolding ended_by flushed_run fit_by fit_last
returns c =
    let a = c.args in
    let win = c.best-w.result in
    let own = get_or a.t.work.states.owns win no_path in
    let row = get_or a.t.work.states.lpcs win [] in
    let after : Outs → Done = λ o. handed_out a.g a.lag a.words a.t.prev own row o in
    let e = rw (c.times-all.ensures.0, read c.ranges.last) at c.flushed.ensures in
    let init = (path own c.struct_told-1.given).init in
    let state = rw (read c.ranges.lag) at c.left-state.ensures in
    let unlike = rw (c.times-all.ensures.0) at c.differ-unlike.ensures.0 in
    let small : c.differ-unlike.result < 2 ^ 31 = omega (arith, c.differ-unlike.ensures.1, c.times-all.ensures.1) in
    let ended : ℕ → Done = λ j. ended_with a.g a.last a.lag a.words (framed_at a.t a.pulses.now) j in
    record {
      words = rw (init, state) (ap after e ∙ ap ended c.best-w.ensures.0);
      report = rw (to_z_pos w32 small, unlike, c.best-w.ensures.0);
    }
