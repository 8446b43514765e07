-- `calls::begin::start_lpc` meets its contract. Assumes nothing.
use mathlib.Core.Path.{◌≡◌, refl, ap, sym, ◌∙◌}
use mathlib.Core.List.{List, ◌++◌}
use Prim.Native.Nat.{◌+◌}
use native.Mathlib.Omega.{arith}
use lib.IntN.{ℤ}
use lib.ListN.{drop}
use Rattle.std.proofs.lemmas.List.{length-take-le}
use Rattle.fixed.specs.Iter.{iter}
use Rattle.fixed.proofs.Iters.{iter-same}
use Rattle.steps.specs.Begin.{start_lpc, copy_turn}
use Rattle.word_steps.specs.Tail.{words_turn}
use Rattle.word_steps.proofs.Moves.{copied}
use Rattle.calls.proofs.begin.start_lpc.Goals as goal

pub slice_bounds-copy_from_slice-end : goal.slice_bounds-copy_from_slice-end
slice_bounds-copy_from_slice-end c = sym (length-take-le 16 c.zero_lpc-row.result (omega arith))

pub slice_bounds-copy_from_slice-end-2 : goal.slice_bounds-copy_from_slice-end-2
slice_bounds-copy_from_slice-end-2 c = sym (length-take-le 16 c.args.lpc (omega arith))

pub copy_from_slice-requires : goal.copy_from_slice-requires
copy_from_slice-requires c =
    length-take-le 16 c.zero_lpc-row.result (omega arith) ∙ sym (length-take-le 16 c.args.lpc (omega arith))

pub returns : goal.returns
unfolding start_lpc
returns c =
    let a = c.args in
    let row = c.zero_lpc-row.result in
    let same : iter (words_turn a.lpc 0) 16 row ≡ iter (copy_turn a.lpc) 16 row =
    iter-same (words_turn a.lpc 0) (copy_turn a.lpc) 16 row (λ j h s. let e : 0 + j ≡ j = omega arith in rw e refl) in
    ap (λ (t : List ℤ). t ++ drop 16 row) c.copy_from_slice.ensures.after
    ∙ copied a.lpc 0 16 row (omega arith) (omega arith) ∙ same ∙ ap (iter (copy_turn a.lpc) 16) c.zero_lpc-row.ensures
