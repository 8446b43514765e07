-- `sheet_words::words::value` meets its contract. Assumes nothing.
use mathlib.Core.Path.{◌≡◌, sym, ◌∙◌}
use native.Mathlib.Omega.{arith}
use lib.ListN.{length, drop, get_or}
use Prim.Native.Nat.{◌-◌}
use Rattle.sheet_words.proofs.Values.{decimal-is, digit_at, value-more, value_grows, value-small, value-done}
use Rattle.std.proofs.Common.{rules}
use Rattle.sheet_words.proofs.words.value.Goals as goal

pub overflow_mul-sum : goal.overflow_mul-sum
overflow_mul-sum c =
    let a = c.args in
    let d = decimal-is a.digits.now c.requires in
    record { fits = omega (arith, value-small _ d, value_grows (drop c.loop-b.b-index a.digits.now) c.loop-b.sum) }

pub overflow_sub-b : goal.overflow_sub-b
overflow_sub-b c =
    let a = c.args in
    let d = decimal-is a.digits.now c.requires in
    (digit_at a.digits.now d.all c.loop-b.b-index (search rules)).0

pub overflow_add-sum : goal.overflow_add-sum
overflow_add-sum c =
    let a = c.args in
    let d = decimal-is a.digits.now c.requires in
    record { fits = omega (arith, digit_at a.digits.now d.all c.loop-b.b-index (search rules), value-small _ d, value_grows (drop c.loop-b.b-index a.digits.now) c.loop-b.sum) }

pub loop-b-preserved : goal.loop-b-preserved
loop-b-preserved c =
    let a = c.args in
    let d : c.from.result ≡ get_or a.digits.now c.loop-b.b-index 0 - 48 = c.from.ensures in
    c.loop-b.invariant ∙ rw d (value-more a.digits.now c.loop-b.sum c.loop-b.b-index (search rules))

pub returns : goal.returns
returns c =
    let a = c.args in
    let e : c.loop-b.b-index ≡ length a.digits.now = omega arith in
    sym (c.loop-b.invariant ∙ value-done a.digits.now c.loop-b.b-index c.loop-b.sum e)
