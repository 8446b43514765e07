-- `sheet_words::words::end_of_run` meets its contract. Assumes nothing.
use Prim.Native.Nat.{◌-◌, ◌<◌, ◌^◌}
use lib.ListN.{length, drop, length-drop}
use lib.Seq.{take_all}
use native.Mathlib.Omega.{arith}
use Rattle.sheet_words.specs.Words.{in_class}
use Rattle.sheet_words.proofs.Runs.{run-le, run_end}
use Rattle.std.proofs.Common.{rules}
use Rattle.sheet_words.proofs.words.end_of_run.Goals as goal

pub overflow_add-result : goal.overflow_add-result
overflow_add-result c =
    let a = c.args in
    let l = length-drop a.from a.text.now in
    let all = take_all (length a.text.now - a.from) (drop a.from a.text.now) (omega arith) in
    let h = run-le (in_class a.class) (drop a.from a.text.now) in
    let e = rw all at c.run_length.ensures in
    let n : length a.text.now < 2 ^ 64 = search rules in
    record { fits = omega arith }

pub returns-then-text-from : goal.returns-then-text-from
returns-then-text-from c =
    let a = c.args in
    let h = run_end (in_class a.class) a.text.now a.from (search rules) in
    omega arith
