-- `hear_text::answer::put_call` meets its contract. Assumes nothing.
use mathlib.Core.Path.{◌≡◌}
use Prim.Native.Nat.{ℕ, ◌≤◌}
use native.Mathlib.Omega.{arith}
use lib.ListN.{length}
use Rattle.hear_text.specs.Heard.{call_text}
use Rattle.sheet_form.proofs.Fitting.{zeros-first}
use Rattle.hear_text.proofs.answer.put_call.Goals as goal

pub returns : goal.returns
unfolding call_text
returns c =
    let n = length c.args.call.now.pulses.items in
    let fits : n ≤ 320 = rw c.len-n.ensures.value at c.len-n.ensures.fits in
    -- how many zeros are lent: one for each pulse
    let lent : ℕ = c.len-n.result in
    let same : lent ≡ n = omega (arith, c.len-n.ensures.value) in
    rw (c.zeros32-space.ensures, same, zeros-first n fits) at c.read.ensures
