-- `excitation::pulse::value` meets its contract. Assumes nothing.
use mathlib.Core.Path.{◌∙◌}
use lib.IntN.{pos}
use Rattle.fixed.specs.Shift.{shl32}
use Rattle.fixed.proofs.Fit.{read, got32, test32, lit32}
use Rattle.excitation.proofs.Values.{value-above, value-below, value-zero}
use Rattle.excitation.proofs.pulse.value.Goals as goal

pub returns-then-x-gt0 : goal.returns-then-x-gt0
unfolding shl32
returns-then-x-gt0 c =
    let v = got32 c.shl32-v.result c.shl32-v.type_inv ∙ rw (read c.ranges.x) at c.shl32-v.ensures in
    let w = got32 c.sub32.result c.sub32.type_inv ∙ rw v at c.sub32.ensures in
    got32 c.add32.result c.add32.type_inv
    ∙ simp (w, read c.ranges.offset) at c.add32.ensures
    ∙ value-above c.args.offset c.args.x (test32 (lit32 (pos 0) tt) c.ranges.x c.if-x-gt0.true)

pub returns-then-x-lt0 : goal.returns-then-x-lt0
unfolding shl32
returns-then-x-lt0 c =
    let v = got32 c.shl32-v.result c.shl32-v.type_inv ∙ rw (read c.ranges.x) at c.shl32-v.ensures in
    let w = got32 c.add32-then-x-lt0.result c.add32-then-x-lt0.type_inv ∙ rw v at c.add32-then-x-lt0.ensures in
    got32 c.add32-then-x-lt0-2.result c.add32-then-x-lt0-2.type_inv
    ∙ simp (w, read c.ranges.offset) at c.add32-then-x-lt0-2.ensures
    ∙ value-below c.args.offset c.args.x (test32 c.ranges.x (lit32 (pos 0) tt) c.if-x-lt0.true)

pub returns : goal.returns
unfolding shl32
returns c =
    let v = got32 c.shl32-v.result c.shl32-v.type_inv ∙ rw (read c.ranges.x) at c.shl32-v.ensures in
    got32 c.add32-2.result c.add32-2.type_inv
    ∙ simp (v, read c.ranges.offset) at c.add32-2.ensures
    ∙ value-zero c.args.offset c.args.x (test32 (lit32 (pos 0) tt) c.ranges.x c.if-x-gt0.false)
    (test32 c.ranges.x (lit32 (pos 0) tt) c.if-x-lt0.false)
