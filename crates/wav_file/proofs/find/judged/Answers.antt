-- `wav_file::find::judged` meets its contract: the numbers one after the other, by the laws of `Gives`. Assumes nothing.
use mathlib.Core.Path.{sym, ◌∙◌}
use native.Mathlib.Omega.{arith}
use Rattle.std.proofs.lemmas.Result.{err_from_is_err_and}
use Rattle.wav_file.specs.Find.{accepted}
use Rattle.wav_file.proofs.Gives.{marked, give-format, give-data, give0, format-room, data-room}
use Rattle.wav_file.proofs.find.judged.Goals as goal

pub format_answer-requires : goal.format_answer-requires
format_answer-requires c =
    let k = marked c.args.file.now c.args.m c.requires.marks in
    record { whole = k.no3; place = k.format }

pub returns-in_err-format : goal.returns-in_err-format
returns-in_err-format c =
    let f = c.args.file.now in
    let k = marked f c.args.m c.requires.marks in
    let p = err_from_is_err_and c.from_residual.result c.from_residual.ensures.1 in
    rw (p.1, p.2) (give-format f c.requires.short c.requires.wave k.no3 _ (sym (c.in_err-format.was) ∙ c.format_answer.ensures))

pub data_answer-requires : goal.data_answer-requires
data_answer-requires c =
    let k = marked c.args.file.now c.args.m c.requires.marks in
    record { whole = k.no3; place = k.body }

pub returns-in_err-body : goal.returns-in_err-body
returns-in_err-body c =
    let f = c.args.file.now in
    let k = marked f c.args.m c.requires.marks in
    let p = err_from_is_err_and c.from_residual-in_err-body.result c.from_residual-in_err-body.ensures.1 in
    rw (p.1, p.2)
    (give-data f c.requires.short c.requires.wave k.no3 _ (sym (c.in_ok-format.was) ∙ c.format_answer.ensures) _ (sym (c.in_err-body.was) ∙ c.data_answer.ensures))

pub size_at-length-requires : goal.size_at-length-requires
size_at-length-requires c =
    let f = c.args.file.now in
    let k = marked f c.args.m c.requires.marks in
    omega (arith, (data-room f _ k.no3 (sym (c.in_ok-body.was) ∙ c.data_answer.ensures)).1)

pub overflow_add-format : goal.overflow_add-format
overflow_add-format c =
    let f = c.args.file.now in
    let k = marked f c.args.m c.requires.marks in
    omega (arith, c.requires.short, (format-room f _ k.no3 (sym (c.in_ok-format.was) ∙ c.format_answer.ensures)).1)

pub word32-rate-requires : goal.word32-rate-requires
word32-rate-requires c =
    let f = c.args.file.now in
    let k = marked f c.args.m c.requires.marks in
    omega (arith, (format-room f _ k.no3 (sym (c.in_ok-format.was) ∙ c.format_answer.ensures)).1)

pub overflow_add-result : goal.overflow_add-result
overflow_add-result c =
    let f = c.args.file.now in
    let k = marked f c.args.m c.requires.marks in
    omega (arith, c.requires.short, (data-room f _ k.no3 (sym (c.in_ok-body.was) ∙ c.data_answer.ensures)).1)

pub returns : goal.returns
unfolding accepted
returns c =
    let f = c.args.file.now in
    let k = marked f c.args.m c.requires.marks in
    let s = sym (c.in_ok-format.was) ∙ c.format_answer.ensures in
    let d = sym (c.in_ok-body.was) ∙ c.data_answer.ensures in
    rw (c.size_at-length.ensures.value, c.word32-rate.ensures, (data-room f _ k.no3 d).0, (format-room f _ k.no3 s).0)
    (give0 f c.requires.short c.requires.wave k.no3 _ s _ d)
