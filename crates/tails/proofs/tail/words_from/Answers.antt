-- `tails::tail::words_from` meets its contract. Assumes nothing.
use mathlib.Core.Path.{◌≡◌, ap, sym, ◌∙◌}
use mathlib.Core.List.{List, ◌++◌}
use Prim.Native.Nat.{ℕ, ◌+◌, ◌-◌}
use native.Mathlib.Omega.{arith}
use lib.IntN.{ℤ}
use lib.ListN.{drop, take, length-drop}
use Rattle.std.proofs.lemmas.List.{length-take-le, length-take}
use Rattle.word_steps.specs.Tail.{words_from}
use Rattle.word_steps.proofs.Moves.{copied}
use Rattle.tails.proofs.tail.words_from.Goals as goal

pub slice_bounds-copy_from_slice-end : goal.slice_bounds-copy_from_slice-end
slice_bounds-copy_from_slice-end c = sym (length-take-le _ c.args.row (omega arith))

pub copy_from_slice-requires : goal.copy_from_slice-requires
copy_from_slice-requires c = rw (length-take, length-take, length-drop) (omega arith)

pub returns : goal.returns
unfolding words_from
returns c =
    let a = c.args in
    let k : (a.a + 16) - a.a ≡ 16 = omega arith in
    ap (λ (t : List ℤ). t ++ drop 16 a.row) (c.copy_from_slice.ensures.after ∙ ap (λ (n : ℕ). take n (drop a.a a.from)) k)
    ∙ copied a.from a.a 16 a.row (omega arith) (omega arith)
