-- `wav_file::chunks::format_with` meets its contract: the name decides. Assumes nothing.
use mathlib.Core.Path.{sym, ◌∙◌}
use Rattle.wav_file.proofs.Going.{format-met, format-kept}
use Rattle.wav_file.proofs.chunks.format_with.Goals as goal

pub returns-then-named : goal.returns-then-named
returns-then-named c = c.or.ensures ∙ format-met c.args.file.now c.args.at c.args.format (sym c.named.ensures ∙ c.if-named.true)

pub returns-else-named : goal.returns-else-named
returns-else-named c = format-kept c.args.file.now c.args.at c.args.format (sym c.named.ensures ∙ c.if-named.false)
