-- `plain_rows::layout::state_of` meets its contract. Assumes nothing.
use mathlib.Core.Path.{◌≡◌}
use Prim.Native.Nat.{ℕ, ◌<◌, ◌^◌}
use lib.Signed.{mag}
use mir.Syntax.{w32}
use mir.Val.{to_z, of_z}
use Rattle.fixed.proofs.Fit.{back}
use Rattle.fixed.specs.Row.{word}
use Rattle.plain_rows.specs.Layout.{state_of}
use Rattle.plain_rows.proofs.layout.state_of.Goals as goal

pub returns : goal.returns
unfolding state_of
returns c =
    let words = c.args.words.now in
    let given : (k : ℕ) → mag (word words k) < 2 ^ 31 → to_z w32 (of_z w32 (word words k)) ≡ word words k = λ k h. back w32 (word words k) h in
    rw (
      c.part.ensures,
      c.part-2.ensures,
      c.part-3.ensures,
      c.part-4.ensures,
      given 760 c.result-1.given,
      given 761 c.result-2-1.given,
      given 762 c.result-3-1.given,
      given 763 c.result-4-1.given,
      given 764 c.result-5-1.given,
      given 765 c.result-6-1.given,
      given 766 c.result-7-1.given,
    )
