-- `wav_file::chunks::size_at` meets its contract: the four bytes behind the name. Assumes nothing.
use Rattle.wav_file.specs.Riff.{size_at}
use Rattle.std.proofs.Common.{rules}
use Rattle.wav_file.proofs.chunks.size_at.Goals as goal

pub returns : goal.returns
unfolding size_at
returns c = record { value = c.word32.ensures; small = search rules }
