-- `silk_LPC_analysis_filter`: what is left of each input once its prediction from the `order` inputs before it is taken
-- away. Step by step as in `LPC_analysis_filter.rs`. Sums wrap in 32 bits. Assumes nothing.
use Rattle.std.specs.Prelude.{ℕ, ◌+◌, ◌-◌, List, get_or, set, length, ℤ, pos, ◌+ℤ◌, ◌-ℤ◌, ◌*ℤ◌}
use Rattle.fixed.specs.Wrap.{wrap32}
use Rattle.fixed.specs.Shift.{shl32, rround}
use Rattle.fixed.specs.Range.{sat16}
use Rattle.fixed.specs.Iter.{iter}

-- tap j at place ix: the input j + 1 places before ix, by coefficient j, added to the sum
abbrev pub tap : List ℤ → List ℤ → ℕ → ℕ → ℤ → ℤ
tap input b ix j sum = wrap32 (sum +ℤ get_or input (ix - 1 - j) (pos 0) *ℤ get_or b j (pos 0))

-- the prediction of the input at place ix, in Q12: taps 0 to order - 1, in this order.
-- The Rust starts with the first product itself, which is that product added to 0.
unfoldable pub prediction : List ℤ → List ℤ → ℕ → ℕ → ℤ
prediction input b order ix = iter (tap input b ix) order (pos 0)

-- the output at place ix: (in[ix] << 12) less the prediction, a rounded shift by 12, held to 16 bits
unfoldable pub filtered : List ℤ → List ℤ → ℕ → ℕ → ℤ
filtered input b order ix = sat16 (rround (wrap32 (shl32 (get_or input ix (pos 0)) 12 -ℤ prediction input b order ix)) 12)

-- the k-th place after the first `order` is filtered
abbrev pub filter_turn : List ℤ → List ℤ → ℕ → ℕ → List ℤ → List ℤ
filter_turn input b order k out = set out (order + k) (filtered input b order (order + k))

-- place i is cleared
abbrev pub clear_turn : ℕ → List ℤ → List ℤ
clear_turn i out = set out i (pos 0)

-- the output has as many places as the input: every one from `order` on is filtered, and then those before it are cleared.
-- What the row has past them stays.
unfoldable pub analysis : List ℤ → List ℤ → List ℤ → ℕ → List ℤ
analysis out input b order = iter clear_turn order (iter (filter_turn input b order) (length input - order) out)
