-- `wav_file::find::data_answer` meets its contract: at each return the tests that led there say which it is. Assumes nothing.
use mathlib.Core.Path.{sym, ap, ◌∙◌}
use native.Mathlib.Omega.{arith}
use Rattle.std.specs.Prelude.{Ok}
use Rattle.wav_file.proofs.Gives.{no_place, at_place, data-none, data-odd, data-even, data-at-fits}
use Rattle.wav_file.proofs.find.data_answer.Goals as goal

pub returns-in_default : goal.returns-in_default
returns-in_default c = let d = c.in_default.is in data-none c.args.file.now (no_place _ (sym c.in_default.is ∙ c.requires.place))

pub size_at-size-requires : goal.size_at-size-requires
size_at-size-requires c =
    let k = at_place _ _ (sym c.in-Some.is ∙ c.requires.place) in
    omega (arith, k.0, data-at-fits c.args.file.now c.requires.whole k.1)

pub returns-then-size-eq1 : goal.returns-then-size-eq1
returns-then-size-eq1 c =
    let k = at_place _ _ (sym c.in-Some.is ∙ c.requires.place) in
    data-odd c.args.file.now k.1 (omega (arith, rw k.0 at c.size_at-size.ensures.value, c.if-size-eq1.true))

pub returns : goal.returns
returns c =
    let k = at_place _ _ (sym c.in-Some.is ∙ c.requires.place) in
    ap Ok k.0 ∙ data-even c.args.file.now k.1 (λ e. c.if-size-eq1.false (omega (arith, rw k.0 at c.size_at-size.ensures.value)))
