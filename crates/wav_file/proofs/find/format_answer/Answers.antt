-- `wav_file::find::format_answer` meets its contract: at each return the tests that led there say which it is. Assumes nothing.
use mathlib.Core.Path.{sym, ap, ◌∙◌}
use native.Mathlib.Omega.{arith}
use mathlib.Core.Bool.{true, false}
use Rattle.std.specs.Prelude.{Ok}
use Rattle.wav_file.proofs.Gives.{no_place, at_place, format-none, format-short, format-sound, format-at-fits}
use Rattle.wav_file.proofs.find.format_answer.Goals as goal

pub returns-in_default : goal.returns-in_default
returns-in_default c = format-none c.args.file.now (no_place _ (sym c.in_default.is ∙ c.requires.place))

pub size_at-requires : goal.size_at-requires
size_at-requires c =
    let k = at_place _ _ (sym c.in-Some.is ∙ c.requires.place) in
    omega (arith, k.0, format-at-fits c.args.file.now c.requires.whole k.1)

pub returns-then-size_at-lt16 : goal.returns-then-size_at-lt16
returns-then-size_at-lt16 c =
    let k = at_place _ _ (sym c.in-Some.is ∙ c.requires.place) in
    format-short c.args.file.now k.1 (rw (c.size_at.ensures.value, k.0) at c.if-size_at-lt16.true)

pub other_sound-requires : goal.other_sound-requires
other_sound-requires c =
    let k = at_place _ _ (sym c.in-Some.is ∙ c.requires.place) in
    omega (arith, k.0, rw k.0 at c.size_at.ensures.value, c.if-size_at-lt16.false, format-at-fits c.args.file.now c.requires.whole k.1)

pub returns-then-other_sound : goal.returns-then-other_sound
returns-then-other_sound c =
    let k = at_place _ _ (sym c.in-Some.is ∙ c.requires.place) in
    format-sound c.args.file.now true k.1 (rw (c.size_at.ensures.value, k.0) at c.if-size_at-lt16.false) (rw k.0 at (sym c.other_sound.ensures ∙ c.if-other_sound.true))

pub returns : goal.returns
returns c =
    let k = at_place _ _ (sym c.in-Some.is ∙ c.requires.place) in
    ap Ok k.0
    ∙ format-sound c.args.file.now false k.1 (rw (c.size_at.ensures.value, k.0) at c.if-size_at-lt16.false) (rw k.0 at (sym c.other_sound.ensures ∙ c.if-other_sound.false))
