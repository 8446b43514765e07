-- `closing::end::left` meets its contract. Assumes nothing.
use mathlib.Core.Path.{◌∙◌}
use lib.ListN.{get_or}
use mir.Syntax.{w32}
use Rattle.fixed.proofs.Fit.{read, got32, back}
use Rattle.path.specs.Data.{no_path}
use Rattle.path.proofs.Told.{path}
use Rattle.steps.specs.Frame.{left_by}
use Rattle.closing.proofs.end.left.Goals as goal

pub returns : goal.returns
unfolding left_by
returns c =
    let t = c.args.t.now in
    let p = path (get_or t.work.states.owns c.args.w no_path) c.struct_told-1.given in
    let all = c.times-all.ensures.0 in
    let gain = back w32 t.prev c.gain-1.given in
    let left = got32 c.work_end.result c.work_end.type_inv ∙ c.work_end.ensures in
    let shaped = got32 c.shaping_end.result c.shaping_end.type_inv ∙ c.shaping_end.ensures in
    let white = got32 c.rewhite_flag.result c.rewhite_flag.type_inv ∙ c.rewhite_flag.ensures in
    simp (c.moved_down16.ensures, c.moved_down32.ensures, all, c.words_from-lpc_words.ensures, p.lf, p.diff, read c.ranges.lag, gain, left, shaped, white)
