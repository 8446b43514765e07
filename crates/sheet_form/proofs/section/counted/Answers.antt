-- `sheet_form::section::counted` meets its contract. Assumes nothing.
use mathlib.Core.Path.{sym}
use native.Mathlib.Omega.{arith}
use lib.ListN.{drop}
use Prim.Native.Nat.{◌<◌, ◌^◌}
use mir.Syntax.{w64}
use mir.Val.{SFits}
use Rattle.fixed.proofs.Fit.{read}
use Rattle.sheet_form.specs.Found.{kind}
use Rattle.sheet_words.proofs.Signs.{small-read}
use Rattle.sheet_form.proofs.Fitting.{section-got, section-bad, count_small}
use Rattle.std.proofs.Common.{rules}
use Rattle.sheet_form.proofs.section.counted.Goals as goal

pub returns-in_err-n : goal.returns-in_err-n
returns-in_err-n g c =
    let a = c.args in
    let least : a.counts.least < 2 ^ 32 = search rules in
    let low = small-read a.counts.least (omega arith) in
    let high = small-read a.counts.most (omega (arith, c.requires)) in
    let k = kind a.counts g.R.Row.words in
    rw c.from_residual.ensures (sym (section-bad k (drop a.at a.text.now) (sym (rw (c.from.ensures, c.from-2.ensures, low, high) at c.in_err-n.ensures))))

pub overflow_cast-n : goal.overflow_cast-n
overflow_cast-n g c =
    let a = c.args in
    let least : a.counts.least < 2 ^ 32 = search rules in
    let low = small-read a.counts.least (omega arith) in
    let high = small-read a.counts.most (omega (arith, c.requires)) in
    let n : SFits w64 c.in_ok-n.n = search rules in
    let s = count_small a.counts.least a.counts.most _ _ _ (sym (rw (c.from.ensures, c.from-2.ensures, low, high) at c.in_ok-n.ensures)) in
    rw (read n) (s.0, record { fits = omega (arith, s.1) })

pub numbers-requires : goal.numbers-requires
numbers-requires g c =
    let a = c.args in
    let least : a.counts.least < 2 ^ 32 = search rules in
    let low = small-read a.counts.least (omega arith) in
    let high = small-read a.counts.most (omega (arith, c.requires)) in
    let n : SFits w64 c.in_ok-n.n = search rules in
    let s = count_small a.counts.least a.counts.most _ _ _ (sym (rw (c.from.ensures, c.from-2.ensures, low, high) at c.in_ok-n.ensures)) in
    rw (read n) (omega (arith, s.1))

pub returns : goal.returns
returns g c =
    let a = c.args in
    let least : a.counts.least < 2 ^ 32 = search rules in
    let low = small-read a.counts.least (omega arith) in
    let high = small-read a.counts.most (omega (arith, c.requires)) in
    let k = kind a.counts g.R.Row.words in
    let n : SFits w64 c.in_ok-n.n = search rules in
    rw (section-got k (drop a.at a.text.now) (drop c.in_ok-n.next a.text.now) c.in_ok-n.n (sym (rw (c.from.ensures, c.from-2.ensures, low, high) at c.in_ok-n.ensures)))
    (rw (read n) at c.numbers.ensures)
