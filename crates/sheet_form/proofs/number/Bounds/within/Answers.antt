-- `sheet_form::number::Bounds::within` meets its contract. Assumes nothing.
use mathlib.Core.Path.{◌≡◌, sym, ◌∙◌}
use mathlib.Core.Bool.{true, false}
use mir.Syntax.{w64}
use mir.Val.{SFits}
use Rattle.sheet_words.proofs.Signs.{test64}
use Rattle.fixed.proofs.Fit.{read}
use Rattle.sheet_words.specs.Number.{within}
use Rattle.std.proofs.Common.{rules, arith}
use Rattle.sheet_form.proofs.number.Bounds.within.Goals as goal
use Rattle.sheet_form.proofs.number.Bounds.within.Goals.{then-z-self, else-z-self}

pub returns-then-self-z : goal.returns-then-self-z
unfolding within
returns-then-self-z c =
    let b = c.args.self in
    let z = c.ranges.z in
    let low : SFits w64 b.low = search rules in
    let high : SFits w64 b.high = search rules in
    elim c.if-z-self.branch [
      | then-z-self w ↦ rw (test64 z low w.if-z-self.true)
      | else-z-self w ↦ rw (test64 z low w.if-z-self.false, test64 high z (sym w.value-is ∙ c.if-self-z.true))
    ]

pub returns-else-self-z : goal.returns-else-self-z
unfolding within
returns-else-self-z c =
    let b = c.args.self in
    let z = c.ranges.z in
    let low : SFits w64 b.low = search rules in
    let high : SFits w64 b.high = search rules in
    elim c.if-z-self.branch [
      | then-z-self w ↦ absurd (let e : true ≡ false = sym w.if-z-self.true ∙ (sym w.value-is ∙ c.if-self-z.false) in grind arith)
      | else-z-self w ↦ rw (read z, test64 z low w.if-z-self.false, test64 high z (sym w.value-is ∙ c.if-self-z.false))
    ]
