-- `wav_file::samples::sample` meets its contract: a word of 16 bits, with its sign. Assumes nothing.
use mathlib.Core.Path.{◌∙◌}
use native.Mathlib.Omega.{arith}
use lib.IntN.{pos}
use mir.Syntax.{w32}
use Rattle.fixed.proofs.Fit.{got16, read}
use Rattle.fixed.proofs.Lin.{sfits-of-lin}
use Rattle.wav_file.specs.Fill.{sample_of}
use Rattle.wav_file.proofs.samples.sample.Goals as goal

pub returns : goal.returns
unfolding sample_of
returns c =
    let f = sfits-of-lin w32 (pos c.word16.result) (omega (arith, c.word16.ensures.small)) (omega arith) in
    got16 c.low16.result c.low16.type_inv ∙ (rw (read f, c.word16.ensures.value) at c.low16.ensures)
