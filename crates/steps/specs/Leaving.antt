-- What leaves at the decision delay: `subfr > 0 || i >= decisionDelay` in silk_noise_shape_quantizer_del_dec of NSQ_del_dec.rs. Assumes nothing.
use Rattle.std.specs.Prelude.{ℕ, Bool, true, List, set, ℤ, leb}
use Rattle.fixed.specs.Iter.{either}
use Rattle.path.specs.declared.structs.Fix.{Fix}

-- does a sample leave at i: `subfr > 0 || i >= decisionDelay`
unfoldable pub leaves : Fix → ℕ → Bool
leaves f i = either f.first (leb f.«decisionDelay» i) true

-- v at place p of the row if a sample leaves
abbrev pub emit : Bool → List ℤ → ℕ → ℤ → List ℤ
emit now row p v = either now (set row p v) row
