-- Numbers counted in blocks of l: number h is number h % l of block h / l. Assumes nothing.
use Prim.Native.Nat.{ℕ, ◌+◌, ◌*◌, ◌/◌, ◌%◌, ◌<◌}
use native.Mathlib.Omega.{arith}
use native.Mathlib.Nat.{mul-add-div_right, div-eq_of_lt, mul-add-mod_self_right, mod-eq_of_lt, add-zero, mod-lt, div-add-mod', div-lt_iff_lt-mul}
use mathlib.Core.Path.{◌≡◌, ap, ◌∙◌}

-- number i of block k: its block is k, and its number there is i
pub block_in : (k i l : ℕ) → i < l → ((k * l + i) / l ≡ k) × ((k * l + i) % l ≡ i)
block_in k i l h = (
  mul-add-div_right (omega arith) k i ∙ ap (λ (z : ℕ). k + z) (div-eq_of_lt h) ∙ add-zero k,
  mul-add-mod_self_right k l i ∙ mod-eq_of_lt h,
)

-- a number of n blocks: its block is one of the n, its number there is below l, and the two count up to it
pub block_of : (h n l : ℕ) → 0 < l → h < n * l → (h / l < n) × ((h % l < l) × (h / l * l + h % l ≡ h))
block_of h n l p q = ((div-lt_iff_lt-mul p).1 q, (mod-lt h p, div-add-mod' h l))
