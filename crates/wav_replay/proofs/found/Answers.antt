-- `wav_replay::found` meets its contract: the part ends at 65,536 at the latest, so its place and its length fit. Assumes nothing.
use Prim.Native.Nat.{ℕ, ◌≤◌}
use native.Mathlib.Omega.{arith}
use mathlib.Core.Path.{◌≡◌, ap}
use mathlib.Core.List.{List}
use lib.ListN.{length}
use Rattle.wav_file.specs.Find.{Outcome, part_of}
use Rattle.wav_file.proofs.Part.{found-small, part_length}
use Rattle.wav_replay.proofs.found.Goals as goal

small-part : (part file : List ℕ) → part ≡ part_of file → length part ≤ 65536
small-part part file e = rw e (omega (arith, found-small file, part_length file))

pub overflow_cast-length : goal.overflow_cast-length
overflow_cast-length c = omega (arith, small-part _ _ c.part.ensures)

pub overflow_cast-f : goal.overflow_cast-f
overflow_cast-f c = omega (arith, ap (λ (o : Outcome). o.start) c.in-Ok.ensures, found-small c.args.file.now)
