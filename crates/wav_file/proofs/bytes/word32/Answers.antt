-- `wav_file::bytes::word32` meets its contract: two words of 16 bits as one number. Assumes nothing.
use Rattle.wav_file.specs.Bytes.{word32}
use Rattle.wav_file.proofs.bytes.word32.Goals as goal

pub returns : goal.returns
unfolding word32
returns c = rw (c.word16.ensures.value, c.word16-2.ensures.value)
