-- `wav_file::chunks::after` meets its contract: a chunk that lies in the file ends there, so no sum wraps. Assumes nothing.
use native.Mathlib.Omega.{arith}
use Rattle.wav_file.proofs.Going.{whole_le}
use Rattle.wav_file.specs.Riff.{after}
use Rattle.wav_file.proofs.chunks.after.Goals as goal

pub size_at-size-requires : goal.size_at-size-requires
size_at-size-requires c = omega (arith, whole_le c.args.file.now c.args.at c.requires.inside)

pub overflow_add-result : goal.overflow_add-result
overflow_add-result c =
    omega (arith, whole_le c.args.file.now c.args.at c.requires.inside, c.requires.short, c.size_at-size.ensures.value)

pub overflow_add-result-2 : goal.overflow_add-result-2
overflow_add-result-2 c =
    omega (arith, whole_le c.args.file.now c.args.at c.requires.inside, c.requires.short, c.size_at-size.ensures.value)

pub overflow_add-result-3 : goal.overflow_add-result-3
overflow_add-result-3 c =
    omega (arith, whole_le c.args.file.now c.args.at c.requires.inside, c.requires.short, c.size_at-size.ensures.value)

pub returns : goal.returns
unfolding after
returns c = omega (arith, c.size_at-size.ensures.value)
