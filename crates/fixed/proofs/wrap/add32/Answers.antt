-- `fixed::wrap::add32` meets its contract. Assumes nothing.
use mathlib.Core.Path.{◌∙◌}
use lib.IntN.{◌+ℤ◌}
use mir.Syntax.{w32}
use Rattle.std.proofs.lemmas.Int.{wrapping_add_is}
use Rattle.fixed.proofs.Wrapping.{wrapped32}
use Rattle.fixed.proofs.wrap.add32.Goals as goal

pub returns : goal.returns
returns c = let a = c.args in wrapping_add_is w32 a.a a.b c.ranges.a c.ranges.b ∙ wrapped32 (a.a +ℤ a.b)
