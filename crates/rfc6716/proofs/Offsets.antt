-- The section's offsets are from 8 to 60. Assumes nothing.
use Prim.Native.Nat.{ℕ, zero, suc, ◌≤◌}
use native.Mathlib.Omega.{arith}
use lib.IntN.{pos}
use lib.Signed.{◌≤ℤ◌}
use Rattle.fixed.proofs.Lin.{le-of-lin}
use Rattle.rfc6716.specs.Excitation.{offset_Q23}

-- for each signal type and offset type
pub offset-range : (kind type : ℕ) → kind ≤ 2 → type ≤ 1 → (pos 8 ≤ℤ offset_Q23 kind type) × (offset_Q23 kind type ≤ℤ pos 60)
unfolding offset_Q23
offset-range zero zero h k = (le-of-lin (pos 8) (pos 25) (omega arith), le-of-lin (pos 25) (pos 60) (omega arith))
offset-range zero (suc zero) h k = (le-of-lin (pos 8) (pos 60) (omega arith), le-of-lin (pos 60) (pos 60) (omega arith))
offset-range zero (suc (suc n)) h k = absurd (omega arith)
offset-range (suc zero) zero h k = (le-of-lin (pos 8) (pos 25) (omega arith), le-of-lin (pos 25) (pos 60) (omega arith))
offset-range (suc zero) (suc zero) h k = (le-of-lin (pos 8) (pos 60) (omega arith), le-of-lin (pos 60) (pos 60) (omega arith))
offset-range (suc zero) (suc (suc n)) h k = absurd (omega arith)
offset-range (suc (suc zero)) zero h k = (le-of-lin (pos 8) (pos 8) (omega arith), le-of-lin (pos 8) (pos 60) (omega arith))
offset-range (suc (suc zero)) (suc zero) h k = (le-of-lin (pos 8) (pos 25) (omega arith), le-of-lin (pos 25) (pos 60) (omega arith))
offset-range (suc (suc zero)) (suc (suc n)) h k = absurd (omega arith)
offset-range (suc (suc (suc n))) zero h k = absurd (omega arith)
offset-range (suc (suc (suc n))) (suc m) h k = absurd (omega arith)
