-- `sheet_words::words::run_length` meets its contract. Assumes nothing.
use mathlib.Core.Path.{sym, ◌∙◌}
use native.Mathlib.Omega.{arith}
use Rattle.sheet_words.specs.Words.{in_class}
use Rattle.sheet_words.proofs.Runs.{run_end, run-stop, run_more}
use Rattle.std.proofs.Common.{rules}
use Rattle.sheet_words.proofs.words.run_length.Goals as goal

pub returns-then-not-in_class : goal.returns-then-not-in_class
returns-then-not-in_class c =
    let a = c.args in
    let s = run-stop (in_class a.class) a.text.now c.loop-n.n (search rules) (sym c.in_class.ensures ∙ c.if-not-in_class.true) in
    omega arith

pub loop-n-preserved : goal.loop-n-preserved
loop-n-preserved c =
    let a = c.args in
    let s = run_more (in_class a.class) a.text.now c.loop-n.n (search rules) (sym c.in_class.ensures ∙ c.if-not-in_class.false) in
    omega arith

pub returns : goal.returns
returns c =
    let a = c.args in
    let s = run_end (in_class a.class) a.text.now c.loop-n.n (search rules) in
    omega arith
