-- `pages::page::Page::put_all` meets its contract. Assumes nothing.
use mathlib.Core.Path.{sym, ap, ◌∙◌}
use native.Mathlib.Omega.{arith}
use Prim.Native.Nat.{◌+◌}
use lib.ListN.{drop, get_or}
use Rattle.pages.specs.Page.{page, puts}
use Rattle.pages.proofs.Pages.{puts-more, puts-done, put_in, put_full}
use Rattle.pages.proofs.page.Page.put_all.Goals as goal
use Rattle.pages.proofs.page.Page.put_all.Goals.{then-used-self, else-used-self}

pub loop-b-preserved : goal.loop-b-preserved
loop-b-preserved c =
    let l = c.loop-b in
    let bytes = c.args.bytes.now in
    let rest = puts (drop (l.b-index + 1) bytes) in
    let b = get_or bytes l.b-index 0 in
    let more = l.invariant.1 ∙ puts-more bytes l.b-index (page l.used l.self.bytes.now) c.loop-b-test.true in
    elim c.if-used-self.branch [
      | then-used-self w ↦ rw (w.self-is, w.used-is) (l.invariant.0, more ∙ ap rest (sym (put_in b l.used l.self.bytes.now w.if-used-self.true)))
      | else-used-self w ↦ rw (w.self-is, w.used-is) (l.invariant.0, more ∙ ap rest (sym (put_full b l.used l.self.bytes.now w.if-used-self.false)))
    ]

pub returns : goal.returns
returns c =
    let l = c.loop-b in
    record { lent = l.invariant.0; puts = sym (l.invariant.1 ∙ puts-done c.args.bytes.now l.b-index (page l.used l.self.bytes.now) (omega arith)) }
