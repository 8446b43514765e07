-- `nsq_c::wav::nsq_wav_find` meets its contract: the part ends at 65,536 at the latest, so its place and its length fit. Assumes nothing.
use mathlib.Core.Path.{ap}
use native.Mathlib.Omega.{arith}
use Rattle.wav_file.specs.Find.{Outcome}
use Rattle.wav_file.proofs.Part.{found-small}
use Rattle.nsq_c.proofs.wav.nsq_wav_find.Goals as goal

pub overflow_cast-start : goal.overflow_cast-start
overflow_cast-start c =
    let f = c.args.file.now in
    omega (arith, found-small f, ap (λ (r : Outcome). r.start) c.in-Ok.ensures, ap (λ (r : Outcome). r.length) c.in-Ok.ensures)

pub overflow_cast-length : goal.overflow_cast-length
overflow_cast-length c =
    let f = c.args.file.now in
    omega (arith, found-small f, ap (λ (r : Outcome). r.start) c.in-Ok.ensures, ap (λ (r : Outcome). r.length) c.in-Ok.ensures)
