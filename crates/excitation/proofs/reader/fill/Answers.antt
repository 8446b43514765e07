-- `excitation::reader::fill` meets its contract. Assumes nothing.
use Prim.Native.Nat.{◌^◌}
use native.Mathlib.Omega.{arith}
use mathlib.Core.Path.{◌≡◌, sym, ap, ◌∙◌}
use lib.ListN.{length, length-set, get_or}
use lib.Seq.{take_all}
use lib.IntN.{pos}
use mir.Syntax.{w8, w32}
use mir.Val.{to_z, of_z}
use Rattle.fixed.specs.Wrap.{mod_z}
use Rattle.fixed.proofs.Iters.{iter-more}
use Rattle.fixed.proofs.Fit.{read}
use Rattle.rfc6716.specs.Excitation.{Row, turn, excitation}
use Rattle.excitation.proofs.Rows.{one_more}
use Rattle.std.proofs.Common.{rules}
use Rattle.excitation.proofs.reader.fill.Goals as goal

pub loop-i-preserved : goal.loop-i-preserved
loop-i-preserved c =
    let o = read c.ranges.offset in
    let p = get_or c.args.pulses.now c.loop-i.i (pos 0) in
    let x : to_z w8 (of_z w8 p) ≡ p = search rules in
    let e : to_z w32 (of_z w32 c.pulse-t.result.e_Q23) ≡ c.pulse-t.result.e_Q23 = search rules in
    let t : to_z w32 (of_z w32 c.pulse-t.result.seed) ≡ c.pulse-t.result.seed = search rules in
    let value = rw (o, x) at c.pulse-t.ensures.value in
    let seed = rw x at c.pulse-t.ensures.seed in
    let inv = rw (o, read c.ranges.first) at c.loop-i.invariant.1 in
    let pulses = c.args.pulses.now in
    let more =
    one_more c.args.offset (get_or pulses c.loop-i.i (pos 0)) c.pulse-t.result.e_Q23 (mod_z (to_z w32 c.loop-i.seed-bits) (2 ^ 32))
    (mod_z c.pulse-t.result.seed (2 ^ 32)) c.loop-i.i c.loop-i.row (search rules) value seed in
    (simp length-set c.loop-i.invariant.0, rw (e, t, o, read c.ranges.first) (more ∙ iter-more (turn c.args.offset pulses) _ _ _ inv))

pub returns : goal.returns
unfolding excitation
returns c =
    let e : c.loop-i.i ≡ length c.args.pulses.now = omega arith in
    let whole = sym (take_all c.loop-i.i c.loop-i.row (omega (arith, c.loop-i.invariant.0))) in
    whole ∙ ap (λ (t : Row). t.e_Q23) (rw (read c.ranges.offset, read c.ranges.first) at c.loop-i.invariant.1) ∙ rw e
