-- `wav_file::find::find` meets its contract: numbers 1 and 2, the walk's 3, and the rest by `judged`. Assumes nothing.
use mathlib.Core.Path.{sym, ◌∙◌}
use Rattle.std.proofs.lemmas.Result.{err_from_is_err_and}
use Rattle.wav_file.proofs.Gives.{give1, give2, give3, runs}
use Rattle.wav_file.proofs.find.find.Goals as goal

pub returns-then-file-gt65536 : goal.returns-then-file-gt65536
returns-then-file-gt65536 c = sym (give1 c.args.file.now c.if-file-gt65536.true)

pub returns-then-not_wave : goal.returns-then-not_wave
returns-then-not_wave c = sym (give2 c.args.file.now c.if-file-gt65536.false (sym c.not_wave.ensures ∙ c.if-not_wave.true))

pub returns-in_err-m : goal.returns-in_err-m
returns-in_err-m c =
    let f = c.args.file.now in
    let p = err_from_is_err_and c.from_residual.result c.from_residual.ensures.1 in
    let k = runs f _ (sym (c.in_err-m.was) ∙ c.walk.ensures) in
    rw (p.1, p.2, k.1) (sym (give3 f c.if-file-gt65536.false (sym c.not_wave.ensures ∙ c.if-not_wave.false) k.0))
