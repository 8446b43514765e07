-- `wav_file::bytes::word16` meets its contract: two bytes as one number. Assumes nothing.
use native.Mathlib.Omega.{arith}
use Rattle.wav_file.specs.Bytes.{word16}
use Rattle.wav_file.proofs.bytes.word16.Goals as goal

pub returns-clause-value : goal.returns-clause-value
unfolding word16
returns-clause-value c = omega (arith, c.from-low.ensures, c.from-high.ensures)
