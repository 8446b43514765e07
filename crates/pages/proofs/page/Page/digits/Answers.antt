-- `pages::page::Page::digits` meets its contract. Assumes nothing.
use mathlib.Core.Path.{◌∙◌, sym}
use native.Mathlib.Omega.{arith}
use Prim.Native.Nat.{◌+◌, ◌-◌, ◌≤◌}
use lib.ListN.{length, drop, set, length-set, length-drop}
use lib.Seq.{take_all}
use Rattle.pages.proofs.Digits.{digits_step, digits-end}
use Rattle.pages.proofs.Pages.{added_as}
use Rattle.std.proofs.Common.{rules}
use Rattle.pages.proofs.page.Page.digits.Goals as goal

pub loop-left-preserved : goal.loop-left-preserved
loop-left-preserved c =
    let l = c.loop-left in
    let h = l.invariant in
    let n = c.args.n in
    ((search rules, length-set l.ds l.at _ ∙ h.0.1), digits_step n l.left l.at l.ds (omega arith) c.loop-left-test.true h.1.0 h.1.1)

pub returns : goal.returns
returns c =
    let l = c.loop-left in
    let a = c.args in
    let ds = set l.ds l.at (48 + l.left) in
    let e = digits-end a.n l.left l.at l.ds (omega arith) c.loop-left-test.false l.invariant.1.1 in
    let f : length (drop l.at ds) ≤ 20 - l.at = omega (arith, length-drop l.at ds, length-set l.ds l.at (48 + l.left)) in
    added_as (take_all (20 - l.at) (drop l.at ds) f ∙ sym e) c.put_all.ensures
