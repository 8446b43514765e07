-- `wav_file::chunks::walk` meets its contract: the loop's invariant is `Going`, and its measure the bytes that are left. Assumes nothing.
use Prim.Native.Nat.{◌-◌}
use lib.ListN.{length}
use Rattle.wav_file.proofs.Going.{Going}
use Rattle.wav_file.proofs.chunks.walk.Given as goal

abbrev pub invariant-loop-at : goal.invariant-loop-at
invariant-loop-at l = Going l.file l.format l.at

abbrev pub decreases-loop-at : goal.decreases-loop-at
decreases-loop-at l = length l.file - l.at
