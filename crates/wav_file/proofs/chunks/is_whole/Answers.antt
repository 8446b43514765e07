-- `wav_file::chunks::is_whole` meets its contract: what head and content need is compared with what is left. Assumes nothing.
use mathlib.Core.Path.{sym}
use native.Mathlib.Omega.{arith}
use Rattle.wav_file.proofs.Going.{no-head, whole-room}
use Rattle.wav_file.proofs.chunks.is_whole.Goals as goal

pub returns-then-left-lt8 : goal.returns-then-left-lt8
returns-then-left-lt8 c = sym (no-head c.args.file.now c.args.at c.if-left-lt8.true)

pub returns : goal.returns
returns c = whole-room c.args.file.now c.args.at _ c.if-left-lt8.false (omega (arith, c.size_at-need.ensures.value))
