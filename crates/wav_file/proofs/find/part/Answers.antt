-- `wav_file::find::part` meets its contract: the part that `find` gives lies in the file, and a refused file has none. Assumes nothing.
use mathlib.Core.Path.{ap, ◌∙◌}
use native.Mathlib.Omega.{arith}
use Rattle.wav_file.specs.Find.{Outcome, part}
use Rattle.wav_file.proofs.Part.{found_inside}
use Rattle.wav_file.proofs.find.part.Goals as goal

pub cut-requires : goal.cut-requires
cut-requires c =
    omega (arith, ap (λ (o : Outcome). o.start) c.in-Ok.ensures, ap (λ (o : Outcome). o.length) c.in-Ok.ensures, found_inside c.args.file.now)

pub returns-in-Ok : goal.returns-in-Ok
returns-in-Ok c = c.cut.ensures ∙ ap (λ (o : Outcome). part c.args.file.now o.start o.length) c.in-Ok.ensures

pub returns-in-Err : goal.returns-in-Err
unfolding part
returns-in-Err c = ap (λ (o : Outcome). part c.args.file.now o.start o.length) c.in-Err.ensures
