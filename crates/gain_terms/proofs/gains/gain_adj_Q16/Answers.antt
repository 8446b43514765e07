-- `gain_terms::gains::gain_adj_Q16` meets its contract. Assumes nothing.
use mathlib.Core.Path.{◌∙◌}
use Rattle.word_steps.specs.Gains.{gain_adj_Q16}
use Rattle.fixed.proofs.Fit.{read, got32}
use Rattle.gain_terms.proofs.gains.gain_adj_Q16.Goals as goal

pub returns : goal.returns
unfolding gain_adj_Q16
returns c = let f = c.ranges in let m = c.silk_DIV32_varQ in got32 m.result m.type_inv ∙ rw (read f.prev, read f.gain) at m.ensures
